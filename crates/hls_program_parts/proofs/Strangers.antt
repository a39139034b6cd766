-- The end, and tokens that are faulty by themselves, can follow nowhere.
use Rattle.std.proofs.Common.{◌≡◌, ℕ, List, Option, Some, None, refl, ◌∙◌}
use Rattle.fs_model.specs.Expressions.{Expression, Variable, Negative, Guard, Test, Not, And, Or}
use Rattle.fs_grammar.specs.declared.token.Flaw.{Flaw}
use Rattle.fs_grammar.specs.declared.token.TokenKind.{TokenKind}
use Rattle.fs_grammar.specs.declared.token.TokenKind.TheVariants.{Bad, End}
use Rattle.fs_grammar.specs.Faults.{IsLast}
use Rattle.fs_expression_text.specs.ExpressionOperators.{product_expression, sum_expression}
use Rattle.fs_expression_text.specs.Inside.{UnitContext, ConjunctionContext, GuardContext, FactorContext, ProductContext, SumContext, Inside, negates}
use Rattle.fs_expression_text.specs.Inside.{first_of_all, and_after, first_of_any, or_after, first_factor, next_factor, negative, first_product, next_product}
use Rattle.fs_expression_text.specs.Inside.{parens, index, left, right, sum_alone, at_unit, after_conjunction, after_guard, at_factor, after_name}
use Rattle.fs_expression_text.specs.Inside.{after_product, after_sum, factor_done, unit_done, step_factor, step_unit, step_guard, step_conjunction, step_joined}
use Rattle.fs_expression_text.specs.Inside.{step_closed, step_sum, step_product, step_multiplied, Whole, whole_at}
use Rattle.fs_expression_text.specs.Inside as inner
use Rattle.fs_phrase_text.specs.Declaring.{Declaring}
use Rattle.fs_phrase_text.specs.Declaring as declaring
use Rattle.hls_program_parts.specs.ProgramGrammar.{Hole, ProgramParseState, in_declaration, inside, step_after, step_inside, program_step}
use Rattle.hls_program_parts.proofs.Closers.{Closes}

-- No sum and no guard has this token.
record IsStrange (t : TokenKind) : Type 0 where
  closes : Closes t
  factor : (k : FactorContext) → step_factor t k ≡ None
  unit : (k : UnitContext) → step_unit t k ≡ None
  guard : (g : Guard (List ℕ)) (k : GuardContext) → step_guard t g k ≡ None
  in_parens : (s : Expression (List ℕ)) (k : FactorContext) → step_closed t s (parens k) ≡ None
  in_index : (s : Expression (List ℕ)) (x : List ℕ) (k : FactorContext) → step_closed t s (index x k) ≡ None
  on_left : (s : Expression (List ℕ)) (k : UnitContext) → step_closed t s (left k) ≡ None
  behind : (h : Hole) (w : Whole) → step_after t h w ≡ None

end_strange : IsStrange End
end_strange = record {
  closes = record {
    guard = λ g. refl;
    conjunction = λ c k. refl;
    closed = λ s. refl;
    literal = λ r l s k. refl;
    sum = λ s k. refl;
    product = λ p k. refl;
    name = λ x k. refl;
  };
  factor = λ k. refl;
  unit = λ k. refl;
  guard = λ g k. refl;
  in_parens = λ s k. refl;
  in_index = λ s x k. refl;
  on_left = λ s k. refl;
  behind = λ h w. refl;
}

bad_strange : (j : Flaw) → IsStrange (Bad j)
bad_strange j = record {
  closes = record {
    guard = λ g. refl;
    conjunction = λ c k. refl;
    closed = λ s. refl;
    literal = λ r l s k. refl;
    sum = λ s k. refl;
    product = λ p k. refl;
    name = λ x k. refl;
  };
  factor = λ k. refl;
  unit = λ k. refl;
  guard = λ g k. refl;
  in_parens = λ s k. refl;
  in_index = λ s x k. refl;
  on_left = λ s k. refl;
  behind = λ h w. refl;
}

conjunction_none : (t : TokenKind) → IsStrange t → (c : Guard (List ℕ)) (k : ConjunctionContext) → step_conjunction t c k ≡ None
conjunction_none t h c (first_of_any k) = h.closes.conjunction c (first_of_any k) ∙ h.guard c k
conjunction_none t h c (or_after g k) = h.closes.conjunction c (or_after g k) ∙ h.guard (Or g c) k

joined_none : (t : TokenKind) → IsStrange t → (u : Guard (List ℕ)) (k : UnitContext) → step_joined t (unit_done u k) ≡ None
joined_none t h u (negates k) = joined_none t h (Not u) k
joined_none t h u (first_of_all k) = conjunction_none t h u k
joined_none t h u (and_after c k) = conjunction_none t h (And c u) k

sum_none : (t : TokenKind) → IsStrange t → (s : Expression (List ℕ)) (k : SumContext) → step_sum t s k ≡ None
sum_none t h s (parens k) = h.closes.sum s (parens k) ∙ h.in_parens s k
sum_none t h s (index x k) = h.closes.sum s (index x k) ∙ h.in_index s x k
sum_none t h s (left k) = h.closes.sum s (left k) ∙ h.on_left s k
sum_none t h s (right r l k) = h.closes.sum s (right r l k) ∙ h.closes.literal r l s k ∙ joined_none t h (Test (record { relation = r; left = l; right = s })) k
sum_none t h s sum_alone = h.closes.sum s sum_alone ∙ h.closes.closed s

product_none : (t : TokenKind) → IsStrange t → (p : Expression (List ℕ)) (k : ProductContext) → step_product t p k ≡ None
product_none t h p (first_product k) = h.closes.product p (first_product k) ∙ sum_none t h p k
product_none t h p (next_product o s k) = h.closes.product p (next_product o s k) ∙ sum_none t h (sum_expression o s p) k

multiplied_none : (t : TokenKind) → IsStrange t → (f : Expression (List ℕ)) (k : FactorContext) → step_multiplied t (factor_done f k) ≡ None
multiplied_none t h f (first_factor k) = product_none t h f k
multiplied_none t h f (next_factor o p k) = product_none t h (product_expression o p f) k
multiplied_none t h f (negative k) = multiplied_none t h (Negative f) k

inside_none : (t : TokenKind) → IsStrange t → (i : Inside) → inner.expression_step i t ≡ None
inside_none t h (at_unit k) = h.unit k
inside_none t h (after_conjunction c k) = conjunction_none t h c k
inside_none t h (after_guard g k) = h.guard g k
inside_none t h (at_factor k) = h.factor k
inside_none t h (after_name x k) = h.closes.name x k ∙ multiplied_none t h (Variable x) k
inside_none t h (after_product p k) = product_none t h p k
inside_none t h (after_sum s k) = sum_none t h s k

step_none : (t : TokenKind) → IsStrange t → (h : Hole) (o : Option Inside) (w : Option Whole) → o ≡ None → step_inside o w h t ≡ None
step_none t k h None (Some w) e = k.behind h w
step_none t k h None None e = refl
step_none t k h (Some i) w e = absurd cc

end_declaring : (s : Declaring) → declaring.declaration_step s End ≡ None
end_declaring (declaring.at_sort n r) = refl
end_declaring (declaring.at_name d) = refl
end_declaring (declaring.after_name d) = refl

bad_declaring : (j : Flaw) (s : Declaring) → declaring.declaration_step s (Bad j) ≡ None
bad_declaring j (declaring.at_sort n r) = refl
bad_declaring j (declaring.at_name d) = refl
bad_declaring j (declaring.after_name d) = refl

pub end_steps : (s : ProgramParseState) (n : ℕ) → program_step s n End ≡ None
end_steps (inside h i) n = step_none End end_strange h (inner.expression_step i End) (whole_at i) (inside_none End end_strange i)
end_steps (in_declaration ds s) n = rw (end_declaring s) refl
end_steps _ n = refl

pub bad_steps : (j : Flaw) (s : ProgramParseState) (n : ℕ) → program_step s n (Bad j) ≡ None
bad_steps j (inside h i) n = step_none (Bad j) (bad_strange j) h (inner.expression_step i (Bad j)) (whole_at i) (inside_none (Bad j) (bad_strange j) i)
bad_steps j (in_declaration ds s) n = rw (bad_declaring j s) refl
bad_steps j _ n = refl

pub last_steps : (t : TokenKind) (s : ProgramParseState) (n : ℕ) → IsLast t → program_step s n t ≡ None
last_steps (Bad j) s n h = bad_steps j s n
last_steps End s n h = end_steps s n
last_steps _ s n h = absurd h
