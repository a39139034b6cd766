-- What a call promises of what it reads.
use Rattle.std.proofs.Common.{◌≡◌, ℕ, List, ◌∷◌, Some, None, refl, ◌∙◌}
use Rattle.fs_model.specs.Expressions.{Expression, Guard}
use Rattle.fs_grammar.specs.declared.token.TokenKind.{TokenKind}
use Rattle.fs_grammar.specs.declared.token.TokenKind.TheVariants.{Plus, Minus, OrOr}
use Rattle.fs_grammar.specs.declared.token.Token.{Token}
use Rattle.fs_grammar.specs.PartEnds.{IsNoSum, IsNoOr, EndsSum, EndsGuard}
use Rattle.fs_expression_text.specs.Inside.{step_sum, step_guard, sum_alone, guard_alone, after_sum, after_guard, whole_sum, whole_guard, parse_expression}
use Rattle.fs_phrase_text.specs.Expressions.{a_sum, a_guard, expression_start, ExpressionStandsFirst}
use Rattle.fs_phrase_text.proofs.ExactExpressions.{read_stands}

pub sum_stops : (t : TokenKind) (s : Expression (List ℕ)) → IsNoSum (Some t) → step_sum t s sum_alone ≡ None
sum_stops Plus s h = absurd h
sum_stops Minus s h = absurd h
sum_stops _ s h = refl

pub guard_stops : (t : TokenKind) (g : Guard (List ℕ)) → IsNoOr (Some t) → step_guard t g guard_alone ≡ None
guard_stops OrOr g h = absurd h
guard_stops _ g h = refl

pub sum_stands : (s : Expression (List ℕ)) (ts behind : List Token) (t : Token)
    → parse_expression ts (expression_start a_sum) ≡ parse_expression (t ∷ behind) (after_sum s sum_alone) → EndsSum (t ∷ behind)
    → ExpressionStandsFirst a_sum (whole_sum s) ts (t ∷ behind)
sum_stands s ts behind t q h = read_stands a_sum (whole_sum s) ts (t ∷ behind) (q ∙ rw (sum_stops t.kind s h) refl)

pub guard_stands : (g : Guard (List ℕ)) (ts behind : List Token) (t : Token)
    → parse_expression ts (expression_start a_guard) ≡ parse_expression (t ∷ behind) (after_guard g guard_alone) → EndsGuard (t ∷ behind)
    → ExpressionStandsFirst a_guard (whole_guard g) ts (t ∷ behind)
guard_stands g ts behind t q h = read_stands a_guard (whole_guard g) ts (t ∷ behind) (q ∙ rw (guard_stops t.kind g h) refl)
