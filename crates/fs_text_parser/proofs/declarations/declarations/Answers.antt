use Rattle.std.proofs.Common.{[], ◌++◌, ◌<◌, append_assoc, length, map, ◌∙◌, refl}
use Rattle.fs_model.specs.View.{declaration_of}
use Rattle.fs_grammar.specs.Tokens.{line_at}
use Rattle.fs_grammar.specs.Grammar.{reading, at_declaration, at_reset}
use Rattle.fs_phrase_text.proofs.PassedOn.{refused}
use Rattle.fs_phrase_text.proofs.Joined.{joined}
use Rattle.fs_text_parser.proofs.ReadParts.{not_pushed, if_pushed, parses_on_with_pushed}
use Rattle.fs_text_parser.proofs.declarations.declarations.Goals as goal

pub returns-in_err-rest : goal.returns-in_err-rest
returns-in_err-rest c =
    let l = c.each in
    refused c.from_residual.result c.in_err-rest.field-0.0 _ c.from_residual.ensures.1 l.invariant
    (not_pushed c.declaration.result c.in_err-rest.field-0.0 _ _ _ _ c.in_err-rest.ensures (c.declaration.ensures.goes (map declaration_of l.all.items)))

pub each-smaller : goal.each-smaller
each-smaller c =
    if_pushed c.declaration.result c.in_ok-rest.rest _ _ (λ y. length y.now < length c.each.rest.now) c.in_ok-rest.ensures c.declaration.ensures.shorter

pub each-preserved : goal.each-preserved
each-preserved c =
    let l = c.each in
    l.invariant
    ∙ parses_on_with_pushed declaration_of (λ ds es. ds ++ es) (λ ds y. reading y.now (at_declaration c.args.format ds)) append_assoc c.declaration.result
    c.in_ok-rest.rest [] _ _ _ c.in_ok-rest.ensures
    (c.declaration.ensures.goes (map declaration_of l.all.items))

pub returns-in_err-all : goal.returns-in_err-all
returns-in_err-all c =
    let l = c.each in
    let ds = map declaration_of l.all.items in
    refused c.from_residual-in_err-all.result c.in_err-all.field-0.0 _ c.from_residual-in_err-all.ensures.1 l.invariant
    (joined _ l.all c.reset_word.result (λ x. reading x.1.now (at_reset c.args.format (map declaration_of x.0.items) (line_at l.rest.now))) c.in_err-all.ensures
    refl (c.reset_word.ensures c.args.format ds))
