-- Readings that agree, and a token that is taken.
use Rattle.std.proofs.Common.{◌≡◌, ℕ, Bool, true, false, cond, List, [], ◌∷◌, Option, Some, None, Ok, Err, refl, sym, ◌∙◌}
use Rattle.fs_model.specs.declared.parts.Rel.{Rel}
use Rattle.fs_model.specs.Expressions.{Expression, Guard, Variable, Negative, Test}
use Rattle.fs_model.specs.Expressions as expressions
use Rattle.fs_grammar.specs.declared.fault.TextFault.{TextFault}
use Rattle.fs_grammar.specs.declared.token.TokenKind.{TokenKind}
use Rattle.fs_grammar.specs.declared.token.TokenKind.TheVariants.{OpenBracket, OpenBrace, Plus, Minus, Bang, AndAnd, OrOr}
use Rattle.fs_grammar.specs.declared.token.Token.{Token}
use Rattle.fs_grammar.specs.Tokens.{kind_at, tokens_after}
use Rattle.fs_grammar.specs.PartEnds.{IsNoSum, EndsSum, IsNoAnd, EndsConjunction, IsNoOr, EndsGuard, IsNoIndex, EndsName, IsNoBrace, IsLiteral}
use Rattle.fs_expression_text.specs.declared.operators.ProductOperator.{ProductOperator}
use Rattle.fs_expression_text.specs.declared.operators.SumOperator.{SumOperator}
use Rattle.fs_expression_text.specs.ExpressionOperators.{product_operator, sum_operator, sum_operator_in, product_operator_at, sum_operator_at, joins_units}
use Rattle.fs_expression_text.specs.ExpressionOperators.{joins_alternatives}
use Rattle.fs_expression_text.specs.Inside.{UnitContext, negates, first_of_all, and_after, ConjunctionContext, first_of_any, or_after, GuardContext}
use Rattle.fs_expression_text.specs.Inside.{FactorContext, first_factor, next_factor, negative, ProductContext, first_product, next_product, SumContext, left}
use Rattle.fs_expression_text.specs.Inside.{right, Inside, at_unit, at_factor, after_conjunction, after_guard, after_name, after_product, after_sum, at_sum}
use Rattle.fs_expression_text.specs.Inside.{factor_done, product_done, unit_done, conjunction_done, literal_done, step_factor, step_unit, step_guard}
use Rattle.fs_expression_text.specs.Inside.{step_guarded, step_conjunction, step_joined, step_sum_on, step_sum, step_summed, step_product_on, step_multiplied}
use Rattle.fs_expression_text.specs.Inside.{step_name, expression_step, whole_at, ends_joined, ends_guarded, ends_summed, ends_multiplied, parse_expression}

-- two states read alike where each token leads both to the same, and both end alike
same_parsed : (ts : List Token) (a b : Inside) → ((t : TokenKind) → kind_at ts ≡ Some t → expression_step a t ≡ expression_step b t) → whole_at a ≡ whole_at b
    → parse_expression ts a ≡ parse_expression ts b
same_parsed [] a b h e = refl
same_parsed (t ∷ ts) a b h e = rw (h t.kind refl, e) refl

-- ---- the ends of units and conjunctions

done_steps : (t : TokenKind) (u : Guard (List ℕ)) (k : UnitContext) → expression_step (unit_done u k) t ≡ step_joined t (unit_done u k)
done_steps t u (negates k) = done_steps t (expressions.Not u) k
done_steps t u (first_of_all k) = refl
done_steps t u (and_after c k) = refl

done_stops : (u : Guard (List ℕ)) (k : UnitContext) → whole_at (unit_done u k) ≡ ends_joined (unit_done u k)
done_stops u (negates k) = done_stops (expressions.Not u) k
done_stops u (first_of_all k) = refl
done_stops u (and_after c k) = refl

right_steps : (t : TokenKind) (r : Rel) (l s : Expression (List ℕ)) (k : UnitContext) → IsNoSum (Some t)
    → step_sum t s (right r l k) ≡ step_joined t (literal_done r l s k)
right_steps Plus r l s k h = absurd h
right_steps Minus r l s k h = absurd h
right_steps _ r l s k h = refl

-- a literal ends where its second sum does
pub sum_ends : (ts : List Token) (r : Rel) (l s : Expression (List ℕ)) (k : UnitContext) → EndsSum ts
    → parse_expression ts (after_sum s (right r l k)) ≡ parse_expression ts (literal_done r l s k)
sum_ends ts r l s k h =
    let u : Guard (List ℕ) = Test (record { relation = r; left = l; right = s }) in
    same_parsed ts (after_sum s (right r l k)) (literal_done r l s k) (λ t e. right_steps t r l s k (rw e at h) ∙ sym (done_steps t u k)) (sym (done_stops u k))

pub literal_steps : (t : TokenKind) (k : UnitContext) → IsNoBrace (Some t) → step_unit t k ≡ step_factor t (first_factor (first_product (left k)))
literal_steps Bang k h = absurd h
literal_steps OpenBrace k h = absurd h
literal_steps _ k h = refl

-- a unit that is a literal begins as its first sum does
pub unit_literal : (ts : List Token) (k : UnitContext) → IsLiteral ts → parse_expression ts (at_unit k) ≡ parse_expression ts (at_sum (left k))
unit_literal ts k h = same_parsed ts (at_unit k) (at_sum (left k)) (λ t e. literal_steps t k (rw e at h)) refl

conjunction_steps :
    (t : TokenKind) (c : Guard (List ℕ)) (k : ConjunctionContext) → IsNoAnd (Some t)
    → step_conjunction t c k ≡ step_guarded t (conjunction_done c k)
conjunction_steps AndAnd c k h = absurd h
conjunction_steps _ c k h = refl

guarded_steps : (t : TokenKind) (c : Guard (List ℕ)) (k : ConjunctionContext) → expression_step (conjunction_done c k) t ≡ step_guarded t (conjunction_done c k)
guarded_steps t c (first_of_any k) = refl
guarded_steps t c (or_after g k) = refl

guarded_stops : (c : Guard (List ℕ)) (k : ConjunctionContext) → whole_at (conjunction_done c k) ≡ ends_guarded (conjunction_done c k)
guarded_stops c (first_of_any k) = refl
guarded_stops c (or_after g k) = refl

-- a conjunction ends where it does not go on
pub conjunction_ends : (ts : List Token) (c : Guard (List ℕ)) (k : ConjunctionContext) → EndsConjunction ts
    → parse_expression ts (after_conjunction c k) ≡ parse_expression ts (conjunction_done c k)
conjunction_ends ts c k h =
    same_parsed ts (after_conjunction c k) (conjunction_done c k) (λ t e. conjunction_steps t c k (rw e at h) ∙ sym (guarded_steps t c k))
    (sym (guarded_stops c k))

-- ---- the ends of products and names

summed_steps : (t : TokenKind) (p : Expression (List ℕ)) (k : ProductContext) → expression_step (product_done p k) t ≡ step_summed t (product_done p k)
summed_steps t p (first_product k) = refl
summed_steps t p (next_product o s k) = refl

summed_stops : (p : Expression (List ℕ)) (k : ProductContext) → whole_at (product_done p k) ≡ ends_summed (product_done p k)
summed_stops p (first_product k) = refl
summed_stops p (next_product o s k) = refl

product_steps : (o : Option ProductOperator) (t : TokenKind) (p : Expression (List ℕ)) (k : ProductContext) → o ≡ None
    → step_product_on o t p k ≡ step_summed t (product_done p k)
product_steps o t p k h = rw h refl

-- a product ends where it does not go on
pub product_ends : (ts : List Token) (p : Expression (List ℕ)) (k : ProductContext) → product_operator_at ts ≡ None
    → parse_expression ts (after_product p k) ≡ parse_expression ts (product_done p k)
product_ends ts p k h = same_parsed ts (after_product p k) (product_done p k)
    (λ t e. product_steps (product_operator t) t p k (rw e at h) ∙ sym (summed_steps t p k)) (sym (summed_stops p k))

name_steps : (t : TokenKind) (x : List ℕ) (k : FactorContext) → IsNoIndex (Some t) → step_name t x k ≡ step_multiplied t (factor_done (Variable x) k)
name_steps OpenBracket x k h = absurd h
name_steps _ x k h = refl

multiplied_steps : (t : TokenKind) (f : Expression (List ℕ)) (k : FactorContext) → expression_step (factor_done f k) t ≡ step_multiplied t (factor_done f k)
multiplied_steps t f (first_factor k) = refl
multiplied_steps t f (next_factor o p k) = refl
multiplied_steps t f (negative k) = multiplied_steps t (Negative f) k

multiplied_stops : (f : Expression (List ℕ)) (k : FactorContext) → whole_at (factor_done f k) ≡ ends_multiplied (factor_done f k)
multiplied_stops f (first_factor k) = refl
multiplied_stops f (next_factor o p k) = refl
multiplied_stops f (negative k) = multiplied_stops (Negative f) k

-- a name without an index is a variable
pub name_ends : (ts : List Token) (x : List ℕ) (k : FactorContext) → EndsName ts
    → parse_expression ts (after_name x k) ≡ parse_expression ts (factor_done (Variable x) k)
name_ends ts x k h = same_parsed ts (after_name x k) (factor_done (Variable x) k)
    (λ t e. name_steps t x k (rw e at h) ∙ sym (multiplied_steps t (Variable x) k)) (sym (multiplied_stops (Variable x) k))

-- a sum ends where no operator goes on with it
no_sum : (t : Option TokenKind) → sum_operator_in t ≡ None → IsNoSum t
no_sum None h = tt
no_sum (Some Plus) h = absurd cc
no_sum (Some Minus) h = absurd cc
no_sum (Some _) h = tt

pub ends_sum : (ts : List Token) → sum_operator_at ts ≡ None → EndsSum ts
ends_sum ts h = no_sum (kind_at ts) h

-- ---- a token that is taken

pub taken : (past_limit : Bool) (f : TextFault) (ts rest : List Token) → cond past_limit (Err f) (Ok ts) ≡ Ok rest → (past_limit ≡ false) × (ts ≡ rest)
taken true f ts rest e = absurd cc
taken false f ts rest e = (refl, cc)

product_goes_on : (o : Option ProductOperator) (operator : ProductOperator) (t : TokenKind) (p : Expression (List ℕ)) (k : ProductContext) → o ≡ Some operator
    → step_product_on o t p k ≡ Some (at_factor (next_factor operator p k))
product_goes_on o operator t p k h = rw h refl

sum_goes_on : (o : Option SumOperator) (operator : SumOperator) (t : TokenKind) (s : Expression (List ℕ)) (k : SumContext) → o ≡ Some operator
    → step_sum_on o t s k ≡ Some (at_factor (first_factor (next_product operator s k)))
sum_goes_on o operator t s k h = rw h refl

-- an operator that is taken goes on with a product
pub takes_factor : (ts rest : List Token) (operator : ProductOperator) (p : Expression (List ℕ)) (k : ProductContext) → product_operator_at ts ≡ Some operator
    → tokens_after ts ≡ Ok rest → parse_expression ts (after_product p k) ≡ parse_expression rest (at_factor (next_factor operator p k))
takes_factor [] rest operator p k h e = absurd cc
takes_factor (t ∷ ts) rest operator p k h e =
    let i = taken t.past_limit _ ts rest e in
    rw (product_goes_on (product_operator t.kind) operator t.kind p k h, i.0, i.1) refl

-- an operator that is taken goes on with a sum
pub takes_operand : (ts rest : List Token) (operator : SumOperator) (s : Expression (List ℕ)) (k : SumContext) → sum_operator_at ts ≡ Some operator
    → tokens_after ts ≡ Ok rest → parse_expression ts (after_sum s k) ≡ parse_expression rest (at_factor (first_factor (next_product operator s k)))
takes_operand [] rest operator s k h e = absurd cc
takes_operand (t ∷ ts) rest operator s k h e =
    let i = taken t.past_limit _ ts rest e in
    rw (sum_goes_on (sum_operator t.kind) operator t.kind s k h, i.0, i.1) refl

-- ---- units and alternatives that are joined

no_and : (t : Option TokenKind) → joins_units t ≡ false → IsNoAnd t
no_and (Some AndAnd) h = absurd cc
no_and _ h = tt

pub ends_conjunction : (ts : List Token) → joins_units (kind_at ts) ≡ false → EndsConjunction ts
ends_conjunction ts h = no_and (kind_at ts) h

no_or : (t : Option TokenKind) → joins_alternatives t ≡ false → IsNoOr t
no_or (Some OrOr) h = absurd cc
no_or _ h = tt

pub ends_guard : (ts : List Token) → joins_alternatives (kind_at ts) ≡ false → EndsGuard ts
ends_guard ts h = no_or (kind_at ts) h

and_goes_on : (t : TokenKind) (c : Guard (List ℕ)) (k : ConjunctionContext) → joins_units (Some t) ≡ true
    → step_conjunction t c k ≡ Some (at_unit (and_after c k))
and_goes_on AndAnd c k h = refl
and_goes_on _ c k h = absurd cc

or_goes_on : (t : TokenKind) (g : Guard (List ℕ)) (k : GuardContext) → joins_alternatives (Some t) ≡ true
    → step_guard t g k ≡ Some (at_unit (first_of_all (or_after g k)))
or_goes_on OrOr g k h = refl
or_goes_on _ g k h = absurd cc

-- `&&` goes on with a conjunction
pub takes_unit : (ts rest : List Token) (c : Guard (List ℕ)) (k : ConjunctionContext) → joins_units (kind_at ts) ≡ true → tokens_after ts ≡ Ok rest
    → parse_expression ts (after_conjunction c k) ≡ parse_expression rest (at_unit (and_after c k))
takes_unit [] rest c k h e = absurd cc
takes_unit (t ∷ ts) rest c k h e =
    let i = taken t.past_limit _ ts rest e in
    rw (and_goes_on t.kind c k h, i.0, i.1) refl

-- `||` goes on with a guard
pub takes_alternative : (ts rest : List Token) (g : Guard (List ℕ)) (k : GuardContext) → joins_alternatives (kind_at ts) ≡ true → tokens_after ts ≡ Ok rest
    → parse_expression ts (after_guard g k) ≡ parse_expression rest (at_unit (first_of_all (or_after g k)))
takes_alternative [] rest g k h e = absurd cc
takes_alternative (t ∷ ts) rest g k h e =
    let i = taken t.past_limit _ ts rest e in
    rw (or_goes_on t.kind g k h, i.0, i.1) refl
