use Rattle.std.proofs.Common.{◌≡◌, [], ◌∷◌, true, false, Some, refl, ap, sym, ◌∙◌}
use Rattle.fs_grammar.specs.declared.token.TokenKind.{TokenKind}
use Rattle.fs_grammar.specs.declared.token.TokenKind.TheVariants.{Comma, Semicolon}
use Rattle.fs_grammar.specs.Tokens.{kind_at}
use Rattle.fs_grammar.specs.Grammar.{after_sum, value, destination_assignment, with_assignments, at_assignment, at_transition, close_transition}
use Rattle.fs_phrase_text.proofs.Joined.{joined, if_joined}
use Rattle.fs_text_parser.proofs.Steps.{accepted}
use Rattle.fs_text_parser.proofs.ReadParts.{after_assignment}
use Rattle.fs_text_parser.proofs.transitions.separator.Goals as goal

pub returns-in-Some-Comma-clause-goes : goal.returns-in-Some-Comma-clause-goes
returns-in-Some-Comma-clause-goes c =
    let is : kind_at c.args.tokens.now ≡ Some Comma = sym c.in-Some-Comma.ensures ∙ ap (λ (w : TokenKind). Some w) c.in-Some-Comma.field-0-is in
    λ o d e.
    let next = with_assignments o (destination_assignment d e ∷ []) in
    joined c.join.result true c.accept.result (after_assignment next) c.join.ensures refl
    (accepted c.args.tokens.now Comma (after_sum e (value o d)) (at_assignment next) c.accept.result is refl c.accept.ensures.gives)

pub returns-in-Some-Comma-clause-shorter : goal.returns-in-Some-Comma-clause-shorter
returns-in-Some-Comma-clause-shorter c = if_joined c.join.result true c.accept.result _ _ c.join.ensures c.accept.ensures.shorter (λ y h. h)

pub returns-in-Some-Semicolon-clause-goes : goal.returns-in-Some-Semicolon-clause-goes
returns-in-Some-Semicolon-clause-goes c =
    let is : kind_at c.args.tokens.now ≡ Some Semicolon = sym c.in-Some-Semicolon.ensures
    ∙ ap (λ (w : TokenKind). Some w) c.in-Some-Semicolon.field-0-is in
    let rest = c.accept-in-Some-Semicolon in
    λ o d e.
    let next = with_assignments o (destination_assignment d e ∷ []) in
    joined c.join-in-Some-Semicolon.result false rest.result (after_assignment next) c.join-in-Some-Semicolon.ensures refl
    (accepted c.args.tokens.now Semicolon (after_sum e (value o d)) (at_transition (close_transition next)) rest.result is refl rest.ensures.gives)

pub returns-in-Some-Semicolon-clause-shorter : goal.returns-in-Some-Semicolon-clause-shorter
returns-in-Some-Semicolon-clause-shorter c =
    let rest = c.accept-in-Some-Semicolon in
    if_joined c.join-in-Some-Semicolon.result false rest.result _ _ c.join-in-Some-Semicolon.ensures rest.ensures.shorter (λ y h. h)
