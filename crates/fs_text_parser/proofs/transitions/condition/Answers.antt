use Rattle.std.proofs.Common.{◌≡◌, Some, None, option_map, refl, ap, sym, ◌∙◌}
use Rattle.fs_model.specs.View.{named_guard}
use Rattle.fs_grammar.specs.declared.token.TokenKind.{TokenKind}
use Rattle.fs_grammar.specs.declared.token.TokenKind.TheVariants.{Goto}
use Rattle.fs_grammar.specs.Tokens.{kind_at, line_at}
use Rattle.fs_grammar.specs.Grammar.{reading, at_target, at_transition}
use Rattle.fs_phrase_text.proofs.Joined.{joined, if_joined}
use Rattle.fs_text_parser.proofs.Steps.{accepted}
use Rattle.fs_text_parser.proofs.transitions.condition.Goals as goal

pub returns-in-Some-Goto-clause-goes : goal.returns-in-Some-Goto-clause-goes
returns-in-Some-Goto-clause-goes c =
    let ts = c.args.tokens.now in
    let is : kind_at ts ≡ Some Goto = sym c.in-Some-Goto.ensures ∙ ap (λ (w : TokenKind). Some w) c.in-Some-Goto.field-0-is in
    let rest = c.accept-in-Some-Goto in
    λ d. joined c.join.result None rest.result (λ x. reading x.1.now (at_target d (line_at ts) (option_map named_guard x.0))) c.join.ensures refl
    (accepted ts Goto (at_transition d) (at_target d (line_at ts) None) rest.result is refl rest.ensures.gives)

pub returns-in-Some-Goto-clause-shorter : goal.returns-in-Some-Goto-clause-shorter
returns-in-Some-Goto-clause-shorter c =
    let rest = c.accept-in-Some-Goto in
    if_joined c.join.result None rest.result _ _ c.join.ensures rest.ensures.shorter (λ y h. h)
