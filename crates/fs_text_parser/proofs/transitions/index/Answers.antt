use Rattle.std.proofs.Common.{refl, ◌∙◌, arith}
use Rattle.fs_model.specs.View.{named_expression}
use Rattle.fs_grammar.specs.declared.token.TokenKind.TheVariants.{OpenBracket}
use Rattle.fs_grammar.specs.Grammar.{reading, after_assignment_name, at_sum, element, value, write_index}
use Rattle.fs_phrase_text.proofs.PassedOn.{refused}
use Rattle.fs_phrase_text.proofs.Joined.{joined, if_joined}
use Rattle.fs_text_parser.proofs.Steps.{took}
use Rattle.fs_text_parser.proofs.transitions.index.Goals as goal

pub returns-in_err-index-clause-goes : goal.returns-in_err-index-clause-goes
returns-in_err-index-clause-goes c =
    λ o x. refused c.from_residual-in_err-index.result c.in_err-index.field-0.0 _ c.from_residual-in_err-index.ensures.1
    (took c.args.tokens.now c.in_ok-rest.rest.now OpenBracket (after_assignment_name o x) (at_sum (write_index o x)) c.requires refl c.in_ok-rest.ensures.gives)
    (c.in_err-index.ensures.goes (write_index o x))

pub returns-clause-goes : goal.returns-clause-goes
returns-clause-goes c =
    let i = c.in_ok-index.index in
    λ o x. joined c.join.result i c.index_end.result (λ y. reading y.1.now (at_sum (value o (element x (named_expression y.0))))) c.join.ensures
    (took c.args.tokens.now c.in_ok-rest.rest.now OpenBracket (after_assignment_name o x) (at_sum (write_index o x)) c.requires refl c.in_ok-rest.ensures.gives
    ∙ c.in_ok-index.ensures.goes (write_index o x)) (c.index_end.ensures.goes (named_expression i) o x)

pub returns-clause-shorter : goal.returns-clause-shorter
returns-clause-shorter c =
    if_joined c.join.result c.in_ok-index.index c.index_end.result _ _ c.join.ensures c.index_end.ensures.shorter
    (λ y h. omega (arith, h, c.in_ok-index.ensures.shorter, c.in_ok-rest.ensures.shorter))
