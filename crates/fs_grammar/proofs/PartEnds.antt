-- A part that ends without a token of its own goes on as what it is a part of, where the next token is none with which it goes on.
use Rattle.std.proofs.Common.{◌≡◌, ℕ, List, Some, None, refl, sym, ◌∙◌}
use Rattle.fs_model.specs.declared.parts.Rel.{Rel}
use Rattle.fs_model.specs.Expressions.{Expression, Guard, Variable, Negative, Test}
use Rattle.fs_model.specs.Expressions as expressions
use Rattle.fs_grammar.specs.declared.token.TokenKind.{TokenKind}
use Rattle.fs_grammar.specs.declared.token.TokenKind.TheVariants.{OpenBracket, OpenBrace, Plus, Minus, Star, Slash, Percent, Bang, AndAnd}
use Rattle.fs_grammar.specs.PartEnds.{IsNoSum, IsNoProduct, IsNoAnd, IsNoIndex, IsNoBrace}
use Rattle.fs_grammar.specs.Grammar.{OpenTransition, scalar, UnitContext, negates, first_of_all, and_after, ConjunctionContext, first_of_any, or_after}
use Rattle.fs_grammar.specs.Grammar.{FactorContext, first_factor, times, divides, remainder_of, negative, ProductContext, first_product, plus, minus, right}
use Rattle.fs_grammar.specs.Grammar.{left, after_assignment_name, at_equals, at_unit, at_sum, after_conjunction, after_name, after_product, after_sum}
use Rattle.fs_grammar.specs.Grammar.{factor_done, product_done, unit_done, conjunction_done, literal_done, step_guarded, step_conjunction, step_joined}
use Rattle.fs_grammar.specs.Grammar.{step_sum, step_summed, step_product, step_multiplied, step_name, step, finish_source}

-- ---- a text may not end where a part has been read

pub unit_stops : (u : Guard (List ℕ)) (k : UnitContext) → finish_source (unit_done u k) ≡ None
unit_stops u (negates k) = unit_stops (expressions.Not u) k
unit_stops u (first_of_all k) = refl
unit_stops u (and_after c k) = refl

pub conjunction_stops : (c : Guard (List ℕ)) (k : ConjunctionContext) → finish_source (conjunction_done c k) ≡ None
conjunction_stops c (first_of_any k) = refl
conjunction_stops c (or_after g k) = refl

pub product_stops : (p : Expression (List ℕ)) (k : ProductContext) → finish_source (product_done p k) ≡ None
product_stops p (first_product k) = refl
product_stops p (plus s k) = refl
product_stops p (minus s k) = refl

pub factor_stops : (f : Expression (List ℕ)) (k : FactorContext) → finish_source (factor_done f k) ≡ None
factor_stops f (first_factor k) = refl
factor_stops f (times p k) = refl
factor_stops f (divides p k) = refl
factor_stops f (remainder_of p k) = refl
factor_stops f (negative k) = factor_stops (Negative f) k

-- ---- units and conjunctions

unit_joins : (n : ℕ) (t : TokenKind) (u : Guard (List ℕ)) (k : UnitContext) → step (unit_done u k) n t ≡ step_joined t (unit_done u k)
unit_joins n t u (negates k) = unit_joins n t (expressions.Not u) k
unit_joins n t u (first_of_all k) = refl
unit_joins n t u (and_after c k) = refl

sum_joins : (t : TokenKind) (r : Rel) (l s : Expression (List ℕ)) (k : UnitContext) → IsNoSum (Some t)
    → step_sum t s (right r l k) ≡ step_joined t (literal_done r l s k)
sum_joins Plus r l s k h = absurd h
sum_joins Minus r l s k h = absurd h
sum_joins _ r l s k h = refl

-- a literal ends where its second sum does
pub literal_steps : (n : ℕ) (t : TokenKind) (r : Rel) (l s : Expression (List ℕ)) (k : UnitContext) → IsNoSum (Some t)
    → step (after_sum s (right r l k)) n t ≡ step (literal_done r l s k) n t
literal_steps n t r l s k h = sum_joins t r l s k h ∙ sym (unit_joins n t (Test (record { relation = r; left = l; right = s })) k)

conjunction_joins : (n : ℕ) (t : TokenKind) (c : Guard (List ℕ)) (k : ConjunctionContext)
    → step (conjunction_done c k) n t ≡ step_guarded t (conjunction_done c k)
conjunction_joins n t c (first_of_any k) = refl
conjunction_joins n t c (or_after g k) = refl

and_ends : (t : TokenKind) (c : Guard (List ℕ)) (k : ConjunctionContext) → IsNoAnd (Some t) → step_conjunction t c k ≡ step_guarded t (conjunction_done c k)
and_ends AndAnd c k h = absurd h
and_ends _ c k h = refl

-- a conjunction ends where it does not go on
pub conjunction_steps : (n : ℕ) (t : TokenKind) (c : Guard (List ℕ)) (k : ConjunctionContext) → IsNoAnd (Some t)
    → step (after_conjunction c k) n t ≡ step (conjunction_done c k) n t
conjunction_steps n t c k h = and_ends t c k h ∙ sym (conjunction_joins n t c k)

-- ---- products and names

product_joins : (n : ℕ) (t : TokenKind) (p : Expression (List ℕ)) (k : ProductContext) → step (product_done p k) n t ≡ step_summed t (product_done p k)
product_joins n t p (first_product k) = refl
product_joins n t p (plus s k) = refl
product_joins n t p (minus s k) = refl

product_ends : (t : TokenKind) (p : Expression (List ℕ)) (k : ProductContext) → IsNoProduct (Some t) → step_product t p k ≡ step_summed t (product_done p k)
product_ends Star p k h = absurd h
product_ends Slash p k h = absurd h
product_ends Percent p k h = absurd h
product_ends _ p k h = refl

-- a product ends where it does not go on
pub product_steps : (n : ℕ) (t : TokenKind) (p : Expression (List ℕ)) (k : ProductContext) → IsNoProduct (Some t)
    → step (after_product p k) n t ≡ step (product_done p k) n t
product_steps n t p k h = product_ends t p k h ∙ sym (product_joins n t p k)

factor_joins : (n : ℕ) (t : TokenKind) (f : Expression (List ℕ)) (k : FactorContext) → step (factor_done f k) n t ≡ step_multiplied t (factor_done f k)
factor_joins n t f (first_factor k) = refl
factor_joins n t f (times p k) = refl
factor_joins n t f (divides p k) = refl
factor_joins n t f (remainder_of p k) = refl
factor_joins n t f (negative k) = factor_joins n t (Negative f) k

name_ends : (t : TokenKind) (x : List ℕ) (k : FactorContext) → IsNoIndex (Some t) → step_name t x k ≡ step_multiplied t (factor_done (Variable x) k)
name_ends OpenBracket x k h = absurd h
name_ends _ x k h = refl

-- a name without an index is a variable
pub name_steps : (n : ℕ) (t : TokenKind) (x : List ℕ) (k : FactorContext) → IsNoIndex (Some t)
    → step (after_name x k) n t ≡ step (factor_done (Variable x) k) n t
name_steps n t x k h = name_ends t x k h ∙ sym (factor_joins n t (Variable x) k)

-- a name without an index is a scalar that is assigned
pub scalar_steps : (n : ℕ) (t : TokenKind) (o : OpenTransition) (x : List ℕ) → IsNoIndex (Some t)
    → step (after_assignment_name o x) n t ≡ step (at_equals o (scalar x)) n t
scalar_steps n OpenBracket o x h = absurd h
scalar_steps n _ o x h = refl

-- ---- the beginnings of units

-- a unit that is a literal begins as its first sum does
pub unit_steps : (n : ℕ) (t : TokenKind) (k : UnitContext) → IsNoBrace (Some t) → step (at_unit k) n t ≡ step (at_sum (left k)) n t
unit_steps n Bang k h = absurd h
unit_steps n OpenBrace k h = absurd h
unit_steps n _ k h = refl
