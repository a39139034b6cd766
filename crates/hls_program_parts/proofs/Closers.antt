-- A sum or a guard that may end does not go on with the token that ends it in a program.
use Rattle.std.proofs.Common.{◌≡◌, List, ℕ, Some, None, refl, ◌∙◌}
use Rattle.fs_model.specs.declared.parts.Rel.{Rel}
use Rattle.fs_model.specs.Expressions.{Expression, Variable, Negative, Guard, Test, Not, And, Or}
use Rattle.fs_grammar.specs.declared.token.TokenKind.{TokenKind}
use Rattle.fs_grammar.specs.declared.token.TokenKind.TheVariants.{OpenBrace, CloseBracket, Semicolon}
use Rattle.fs_expression_text.specs.ExpressionOperators.{product_expression, sum_expression}
use Rattle.fs_expression_text.specs.Inside.{UnitContext, ConjunctionContext, GuardContext, FactorContext, ProductContext, SumContext, Inside, negates}
use Rattle.fs_expression_text.specs.Inside.{first_of_all, and_after, first_of_any, or_after, braces, guard_alone, first_factor, next_factor, negative}
use Rattle.fs_expression_text.specs.Inside.{first_product, next_product, parens, index, left, right, sum_alone, at_unit, after_conjunction, after_guard}
use Rattle.fs_expression_text.specs.Inside.{at_factor, after_name, after_product, after_sum, factor_done, product_done, unit_done, conjunction_done}
use Rattle.fs_expression_text.specs.Inside.{literal_done, step_guard, step_guarded, step_conjunction, step_joined, step_closed, step_sum, step_summed}
use Rattle.fs_expression_text.specs.Inside.{step_product, step_multiplied, step_name, expression_step, Whole, ends_guard, ends_conjunction, ends_joined}
use Rattle.fs_expression_text.specs.Inside.{ends_sum, ends_product, ends_multiplied, whole_at}

-- With this token no part of a sum or a guard goes on, unless it closes a bracket in one.
pub record Closes (t : TokenKind) : Type 0 where
  pub guard : (g : Guard (List ℕ)) → step_guard t g guard_alone ≡ None
  pub conjunction : (c : Guard (List ℕ)) (k : ConjunctionContext) → step_conjunction t c k ≡ step_guarded t (conjunction_done c k)
  pub closed : (s : Expression (List ℕ)) → step_closed t s sum_alone ≡ None
  pub literal : (r : Rel) (l s : Expression (List ℕ)) (k : UnitContext) → step_closed t s (right r l k) ≡ step_joined t (literal_done r l s k)
  pub sum : (s : Expression (List ℕ)) (k : SumContext) → step_sum t s k ≡ step_closed t s k
  pub product : (p : Expression (List ℕ)) (k : ProductContext) → step_product t p k ≡ step_summed t (product_done p k)
  pub name : (x : List ℕ) (k : FactorContext) → step_name t x k ≡ step_multiplied t (factor_done (Variable x) k)

pub brace_closes : Closes OpenBrace
brace_closes = record {
  guard = λ g. refl;
  conjunction = λ c k. refl;
  closed = λ s. refl;
  literal = λ r l s k. refl;
  sum = λ s k. refl;
  product = λ p k. refl;
  name = λ x k. refl;
}

pub bracket_closes : Closes CloseBracket
bracket_closes = record {
  guard = λ g. refl;
  conjunction = λ c k. refl;
  closed = λ s. refl;
  literal = λ r l s k. refl;
  sum = λ s k. refl;
  product = λ p k. refl;
  name = λ x k. refl;
}

pub semicolon_closes : Closes Semicolon
semicolon_closes = record {
  guard = λ g. refl;
  conjunction = λ c k. refl;
  closed = λ s. refl;
  literal = λ r l s k. refl;
  sum = λ s k. refl;
  product = λ p k. refl;
  name = λ x k. refl;
}

guard_closes : (t : TokenKind) → Closes t → (g : Guard (List ℕ)) (k : GuardContext) (w : Whole) → ends_guard g k ≡ Some w → step_guard t g k ≡ None
guard_closes t h g (braces k) w e = absurd cc
guard_closes t h g guard_alone w e = h.guard g

conjunction_closes : (t : TokenKind) → Closes t → (c : Guard (List ℕ)) (k : ConjunctionContext) (w : Whole) → ends_conjunction c k ≡ Some w
    → step_conjunction t c k ≡ None
conjunction_closes t h c (first_of_any k) w e = h.conjunction c (first_of_any k) ∙ guard_closes t h c k w e
conjunction_closes t h c (or_after g k) w e = h.conjunction c (or_after g k) ∙ guard_closes t h (Or g c) k w e

joined_closes : (t : TokenKind) → Closes t → (u : Guard (List ℕ)) (k : UnitContext) (w : Whole) → ends_joined (unit_done u k) ≡ Some w
    → step_joined t (unit_done u k) ≡ None
joined_closes t h u (negates k) w e = joined_closes t h (Not u) k w e
joined_closes t h u (first_of_all k) w e = conjunction_closes t h u k w e
joined_closes t h u (and_after c k) w e = conjunction_closes t h (And c u) k w e

sum_closes : (t : TokenKind) → Closes t → (s : Expression (List ℕ)) (k : SumContext) (w : Whole) → ends_sum s k ≡ Some w → step_sum t s k ≡ None
sum_closes t h s sum_alone w e = h.sum s sum_alone ∙ h.closed s
sum_closes t h s (right r l k) w e = h.sum s (right r l k) ∙ h.literal r l s k ∙ joined_closes t h (Test (record { relation = r; left = l; right = s })) k w e
sum_closes t h s (parens k) w e = absurd cc
sum_closes t h s (index x k) w e = absurd cc
sum_closes t h s (left k) w e = absurd cc

product_closes : (t : TokenKind) → Closes t → (p : Expression (List ℕ)) (k : ProductContext) (w : Whole) → ends_product p k ≡ Some w → step_product t p k ≡ None
product_closes t h p (first_product k) w e = h.product p (first_product k) ∙ sum_closes t h p k w e
product_closes t h p (next_product o s k) w e = h.product p (next_product o s k) ∙ sum_closes t h (sum_expression o s p) k w e

multiplied_closes : (t : TokenKind) → Closes t → (f : Expression (List ℕ)) (k : FactorContext) (w : Whole) → ends_multiplied (factor_done f k) ≡ Some w
    → step_multiplied t (factor_done f k) ≡ None
multiplied_closes t h f (first_factor k) w e = product_closes t h f k w e
multiplied_closes t h f (next_factor o p k) w e = product_closes t h (product_expression o p f) k w e
multiplied_closes t h f (negative k) w e = multiplied_closes t h (Negative f) k w e

-- what may end does not go on
pub ends_here : (t : TokenKind) → Closes t → (i : Inside) (w : Whole) → whole_at i ≡ Some w → expression_step i t ≡ None
ends_here t h (at_unit k) w e = absurd cc
ends_here t h (after_conjunction c k) w e = conjunction_closes t h c k w e
ends_here t h (after_guard g k) w e = guard_closes t h g k w e
ends_here t h (at_factor k) w e = absurd cc
ends_here t h (after_name x k) w e = h.name x k ∙ multiplied_closes t h (Variable x) k w e
ends_here t h (after_product p k) w e = product_closes t h p k w e
ends_here t h (after_sum s k) w e = sum_closes t h s k w e
