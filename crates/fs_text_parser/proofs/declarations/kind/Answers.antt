use Rattle.std.proofs.Common.{◌≡◌, ◌<◌, length, [], Some, refl, ap, sym, ◌∙◌, arith}
use Rattle.fs_model.specs.declared.parts.Role.TheVariants.{Output}
use Rattle.fs_model.specs.declared.parts.Sort.TheVariants as sorts
use Rattle.fs_grammar.specs.declared.token.TokenKind.{TokenKind}
use Rattle.fs_grammar.specs.declared.token.TokenKind.TheVariants.{Declare}
use Rattle.fs_grammar.specs.Tokens.{kind_at, line_at}
use Rattle.fs_grammar.specs.Grammar.{reading, at_declaration, at_sort, at_declared}
use Rattle.fs_phrase_text.proofs.Joined.{joined, if_joined}
use Rattle.fs_text_parser.proofs.Steps.{took}
use Rattle.fs_text_parser.proofs.declarations.kind.Goals as goal

pub returns-in_ok-rest-in-Some-Declare-clause-goes : goal.returns-in_ok-rest-in-Some-Declare-clause-goes
returns-in_ok-rest-in-Some-Declare-clause-goes c =
    let ts = c.args.tokens.now in
    let f = c.args.format in
    let n = line_at ts in
    let role = c.in-Some-Declare.role in
    let rest = c.in_ok-rest-in-Some-Declare in
    let is : kind_at ts ≡ Some (Declare role) = sym c.in-Some-Declare.ensures ∙ ap (λ (w : TokenKind). Some w) c.in-Some-Declare.field-0-is in
    λ ds. joined c.join.result role c.sort.result
    (λ x. reading x.1.1.now (at_declared f ds (record { line = n; role = x.0; sort = x.1.0; names = [] }))) c.join.ensures
    (took ts rest.rest.now (Declare role) (at_declaration f ds) (at_sort f ds n role) is refl rest.ensures.gives) (c.sort.ensures.goes f ds n role)

pub returns-in_ok-rest-in-Some-Declare-clause-shorter : goal.returns-in_ok-rest-in-Some-Declare-clause-shorter
returns-in_ok-rest-in-Some-Declare-clause-shorter c =
    if_joined c.join.result c.in-Some-Declare.role c.sort.result _ _ c.join.ensures c.sort.ensures.shorter
    (λ y h. omega (arith, h, c.in_ok-rest-in-Some-Declare.ensures.shorter))

pub returns-in-Some-Port-clause-goes : goal.returns-in-Some-Port-clause-goes
returns-in-Some-Port-clause-goes c =
    let inner = c.join-in-Some-Port in
    let n = line_at c.args.tokens.now in
    λ ds. joined c.join-in-Some-Port-2.result Output inner.result
    (λ x. reading x.1.1.now (at_declared c.args.format ds (record { line = n; role = x.0; sort = x.1.0; names = [] }))) c.join-in-Some-Port-2.ensures refl
    (joined inner.result sorts.Port c.port.result
    (λ y. reading y.1.now (at_declared c.args.format ds (record { line = n; role = Output; sort = y.0; names = [] }))) inner.ensures refl
    (c.port.ensures.goes ds))

pub returns-in-Some-Port-clause-shorter : goal.returns-in-Some-Port-clause-shorter
returns-in-Some-Port-clause-shorter c =
    let inner = c.join-in-Some-Port in
    if_joined c.join-in-Some-Port-2.result Output inner.result _ (λ y. length y.1.now < length c.args.tokens.now) c.join-in-Some-Port-2.ensures
    (if_joined inner.result sorts.Port c.port.result _ _ inner.ensures c.port.ensures.shorter (λ y h. h)) (λ y h. h)
