use Rattle.std.proofs.Common.{◌≡◌, ◌++◌, Some, map, refl, ap, sym, ◌∙◌, append-nil}
use Rattle.fs_model.specs.View.{named_assignment}
use Rattle.fs_grammar.specs.declared.token.TokenKind.{TokenKind}
use Rattle.fs_grammar.specs.declared.token.TokenKind.TheVariants.{Semicolon}
use Rattle.fs_grammar.specs.Tokens.{kind_at}
use Rattle.fs_grammar.specs.Grammar.{reading, after_target, with_assignments, at_transition, close_transition}
use Rattle.fs_phrase_text.proofs.Joined.{joined, if_joined}
use Rattle.fs_text_parser.proofs.Steps.{accepted}
use Rattle.fs_text_parser.proofs.transitions.effects.Goals as goal

pub returns-in-Some-Semicolon-clause-goes : goal.returns-in-Some-Semicolon-clause-goes
returns-in-Some-Semicolon-clause-goes c =
    let is : kind_at c.args.tokens.now ≡ Some Semicolon = sym c.in-Some-Semicolon.ensures
    ∙ ap (λ (w : TokenKind). Some w) c.in-Some-Semicolon.field-0-is in
    let rest = c.accept-in-Some-Semicolon in
    λ o e.
    let none : o.assignments ≡ o.assignments ++ map named_assignment c.new.result.items = sym (append-nil o.assignments)
    ∙ ap (λ l. o.assignments ++ map named_assignment l) (sym c.new.ensures.items) in
    joined c.join.result c.new.result rest.result
    (λ x. reading x.1.now (at_transition (close_transition (with_assignments o (map named_assignment x.0.items))))) c.join.ensures refl
    (accepted c.args.tokens.now Semicolon (after_target o)
    (at_transition (close_transition (with_assignments o (map named_assignment c.new.result.items)))) rest.result is
    (ap (λ l. Some (at_transition (close_transition (record o { assignments = l })))) none) rest.ensures.gives)

pub returns-in-Some-Semicolon-clause-shorter : goal.returns-in-Some-Semicolon-clause-shorter
returns-in-Some-Semicolon-clause-shorter c =
    let rest = c.accept-in-Some-Semicolon in
    if_joined c.join.result c.new.result rest.result _ _ c.join.ensures rest.ensures.shorter (λ y h. h)
