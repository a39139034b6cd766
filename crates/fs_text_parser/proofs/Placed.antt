-- The sums and guards of a machine text read as they do by themselves.
use Rattle.std.proofs.Common.{◌≡◌, ℕ, List, [], ◌∷◌, Option, Some, None, refl, ap}
use Rattle.fs_text_parser.proofs.Declared.{none_stops}
use Rattle.fs_model.specs.Expressions.{Expression, Variable, Read, Negative, Guard, Test, Not, And, Or, Sum, Difference, Product, Quotient, Remainder}
use Rattle.fs_grammar.specs.declared.format.Format.TheVariants.{One}
use Rattle.fs_grammar.specs.declared.token.TokenKind.{TokenKind}
use Rattle.fs_grammar.specs.declared.token.TokenKind.TheVariants.{Name, Number, OpenParen, CloseParen, OpenBracket, CloseBracket, OpenBrace, CloseBrace, Plus}
use Rattle.fs_grammar.specs.declared.token.TokenKind.TheVariants.{Minus, Star, Slash, Percent, Bang, AndAnd, OrOr, Relation}
use Rattle.fs_grammar.specs.declared.token.Token.{Token}
use Rattle.fs_grammar.specs.Tokens.{refusal}
use Rattle.fs_grammar.specs.Grammar.{UnitContext, negates, first_of_all, and_after, ConjunctionContext, first_of_any, or_after, GuardContext, braces}
use Rattle.fs_grammar.specs.Grammar.{transition_guard, FactorContext, first_factor, times, divides, remainder_of, negative, ProductContext, first_product, plus}
use Rattle.fs_grammar.specs.Grammar.{minus, SumContext, parens, index, left, right, ParseState, at_unit, after_conjunction, after_guard, at_factor, after_name}
use Rattle.fs_grammar.specs.Grammar.{after_product, after_sum, factor_done, product_done, unit_done, step_factor, step_unit, step_guard, step_conjunction}
use Rattle.fs_grammar.specs.Grammar.{step_joined, step_sum, step_summed, step_product, step_multiplied, step_name, step, finish_source, take_token, reading}
use Rattle.fs_expression_text.specs.declared.operators.ProductOperator.{ProductOperator}
use Rattle.fs_expression_text.specs.declared.operators.ProductOperator.TheVariants as products
use Rattle.fs_expression_text.specs.declared.operators.SumOperator.{SumOperator}
use Rattle.fs_expression_text.specs.declared.operators.SumOperator.TheVariants as sums
use Rattle.fs_expression_text.specs.Inside.{Inside, Whole, whole_sum, whole_guard}
use Rattle.fs_expression_text.specs.Inside as inner
use Rattle.fs_expression_text.specs.Hosts.{HostsExpressions}

-- what a whole sum and a whole guard are read for
pub record Hole : Type 0 where
  pub sums : SumContext
  pub guards : GuardContext

abbrev pub factor_by : ProductOperator → Expression (List ℕ) → ProductContext → FactorContext
factor_by products.Times p k = times p k
factor_by products.Divide p k = divides p k
factor_by products.Remainder p k = remainder_of p k

abbrev pub product_by : SumOperator → Expression (List ℕ) → SumContext → ProductContext
product_by sums.Plus s k = plus s k
product_by sums.Minus s k = minus s k

abbrev mutual
  pub unit_in : Hole → inner.UnitContext → UnitContext
  unit_in h (inner.negates k) = negates (unit_in h k)
  unit_in h (inner.first_of_all k) = first_of_all (conjunction_in h k)
  unit_in h (inner.and_after c k) = and_after c (conjunction_in h k)

  pub conjunction_in : Hole → inner.ConjunctionContext → ConjunctionContext
  conjunction_in h (inner.first_of_any k) = first_of_any (guard_in h k)
  conjunction_in h (inner.or_after g k) = or_after g (guard_in h k)

  pub guard_in : Hole → inner.GuardContext → GuardContext
  guard_in h (inner.braces k) = braces (unit_in h k)
  guard_in h inner.guard_alone = h.guards

abbrev mutual
  pub factor_in : Hole → inner.FactorContext → FactorContext
  factor_in h (inner.first_factor k) = first_factor (product_in h k)
  factor_in h (inner.next_factor o p k) = factor_by o p (product_in h k)
  factor_in h (inner.negative k) = negative (factor_in h k)

  pub product_in : Hole → inner.ProductContext → ProductContext
  product_in h (inner.first_product k) = first_product (sum_in h k)
  product_in h (inner.next_product o s k) = product_by o s (sum_in h k)

  pub sum_in : Hole → inner.SumContext → SumContext
  sum_in h (inner.parens k) = parens (factor_in h k)
  sum_in h (inner.index x k) = index x (factor_in h k)
  sum_in h (inner.left k) = left (unit_in h k)
  sum_in h (inner.right r l k) = right r l (unit_in h k)
  sum_in h inner.sum_alone = h.sums

-- a place inside a sum or a guard, as a place of the whole text
abbrev pub placed : Hole → Inside → ParseState
placed h (inner.at_unit k) = at_unit (unit_in h k)
placed h (inner.after_conjunction c k) = after_conjunction c (conjunction_in h k)
placed h (inner.after_guard g k) = after_guard g (guard_in h k)
placed h (inner.at_factor k) = at_factor (factor_in h k)
placed h (inner.after_name x k) = after_name x (factor_in h k)
placed h (inner.after_product p k) = after_product p (product_in h k)
placed h (inner.after_sum s k) = after_sum s (sum_in h k)

-- the place after a whole one
abbrev pub behind : Hole → Whole → ParseState
behind h (whole_sum e) = after_sum e h.sums
behind h (whole_guard g) = after_guard g h.guards

-- a token goes on inside, or is looked at after what is whole, or cannot follow
abbrev leads : Hole → ℕ → TokenKind → Option Inside → Option Whole → Option ParseState
leads h n t (Some j) w = Some (placed h j)
leads h n t None (Some w) = step (behind h w) n t
leads h n t None None = None

-- ---- what has been read

factor_ends : (h : Hole) (f : Expression (List ℕ)) (k : inner.FactorContext) → factor_done f (factor_in h k) ≡ placed h (inner.factor_done f k)
factor_ends h f (inner.first_factor k) = refl
factor_ends h f (inner.next_factor products.Times p k) = refl
factor_ends h f (inner.next_factor products.Divide p k) = refl
factor_ends h f (inner.next_factor products.Remainder p k) = refl
factor_ends h f (inner.negative k) = factor_ends h (Negative f) k

unit_ends : (h : Hole) (u : Guard (List ℕ)) (k : inner.UnitContext) → unit_done u (unit_in h k) ≡ placed h (inner.unit_done u k)
unit_ends h u (inner.negates k) = unit_ends h (Not u) k
unit_ends h u (inner.first_of_all k) = refl
unit_ends h u (inner.and_after c k) = refl

-- ---- which token can follow

goes_to : (h : Hole) (s : ParseState) (j : Inside) → s ≡ placed h j → Some s ≡ Some (placed h j)
goes_to h s j e = ap (λ (u : ParseState). Some u) e

factor_steps : (h : Hole) (n : ℕ) (t : TokenKind) (k : inner.FactorContext) → step_factor t (factor_in h k) ≡ leads h n t (inner.step_factor t k) None
factor_steps h n (Number m) k = goes_to h _ (inner.factor_done _ k) (factor_ends h _ k)
factor_steps h n (Name x) k = refl
factor_steps h n Minus k = refl
factor_steps h n OpenParen k = refl
factor_steps h n _ k = refl

unit_steps : (h : Hole) (n : ℕ) (t : TokenKind) (k : inner.UnitContext) → step_unit t (unit_in h k) ≡ leads h n t (inner.step_unit t k) None
unit_steps h n Bang k = refl
unit_steps h n OpenBrace k = refl
unit_steps h n t k = factor_steps h n t (inner.first_factor (inner.first_product (inner.left k)))

guard_steps : (h : Hole) (n : ℕ) (t : TokenKind) (g : Guard (List ℕ)) (k : inner.GuardContext)
    → step_guard t g (guard_in h k) ≡ leads h n t (inner.step_guard t g k) (inner.ends_guard g k)
guard_steps h n OrOr g k = refl
guard_steps h n CloseBrace g (inner.braces k) = goes_to h (unit_done g (unit_in h k)) (inner.unit_done g k) (unit_ends h g k)
guard_steps h n t g (inner.braces k) = refl
guard_steps h n t g inner.guard_alone = refl

conjunction_steps : (h : Hole) (n : ℕ) (t : TokenKind) (c : Guard (List ℕ)) (k : inner.ConjunctionContext)
    → step_conjunction t c (conjunction_in h k) ≡ leads h n t (inner.step_conjunction t c k) (inner.ends_conjunction c k)
conjunction_steps h n AndAnd c k = refl
conjunction_steps h n t c (inner.first_of_any k) = guard_steps h n t c k
conjunction_steps h n t c (inner.or_after g k) = guard_steps h n t (Or g c) k

joined_steps : (h : Hole) (n : ℕ) (t : TokenKind) (u : Guard (List ℕ)) (k : inner.UnitContext)
    → step_joined t (unit_done u (unit_in h k)) ≡ leads h n t (inner.step_joined t (inner.unit_done u k)) (inner.ends_joined (inner.unit_done u k))
joined_steps h n t u (inner.negates k) = joined_steps h n t (Not u) k
joined_steps h n t u (inner.first_of_all k) = conjunction_steps h n t u k
joined_steps h n t u (inner.and_after c k) = conjunction_steps h n t (And c u) k

sum_steps : (h : Hole) (n : ℕ) (t : TokenKind) (s : Expression (List ℕ)) (k : inner.SumContext)
    → step_sum t s (sum_in h k) ≡ leads h n t (inner.step_sum t s k) (inner.ends_sum s k)
sum_steps h n Plus s k = refl
sum_steps h n Minus s k = refl
sum_steps h n CloseParen s (inner.parens k) = goes_to h (factor_done s (factor_in h k)) (inner.factor_done s k) (factor_ends h s k)
sum_steps h n CloseBracket s (inner.index x k) = goes_to h (factor_done (Read x s) (factor_in h k)) (inner.factor_done (Read x s) k)
    (factor_ends h (Read x s) k)
sum_steps h n (Relation r) s (inner.left k) = refl
sum_steps h n t s (inner.right r l k) = joined_steps h n t (Test (record { relation = r; left = l; right = s })) k
sum_steps h n t s (inner.parens k) = refl
sum_steps h n t s (inner.index x k) = refl
sum_steps h n t s (inner.left k) = refl
sum_steps h n t s inner.sum_alone = refl

summed_steps : (h : Hole) (n : ℕ) (t : TokenKind) (p : Expression (List ℕ)) (k : inner.ProductContext)
    → step_summed t (product_done p (product_in h k)) ≡ leads h n t (inner.step_summed t (inner.product_done p k)) (inner.ends_summed (inner.product_done p k))
summed_steps h n t p (inner.first_product k) = sum_steps h n t p k
summed_steps h n t p (inner.next_product sums.Plus s k) = sum_steps h n t (Sum s p) k
summed_steps h n t p (inner.next_product sums.Minus s k) = sum_steps h n t (Difference s p) k

product_steps : (h : Hole) (n : ℕ) (t : TokenKind) (p : Expression (List ℕ)) (k : inner.ProductContext)
    → step_product t p (product_in h k) ≡ leads h n t (inner.step_product t p k) (inner.ends_product p k)
product_steps h n Star p k = refl
product_steps h n Slash p k = refl
product_steps h n Percent p k = refl
product_steps h n t p k = summed_steps h n t p k

multiplied_steps : (h : Hole) (n : ℕ) (t : TokenKind) (f : Expression (List ℕ)) (k : inner.FactorContext)
    → step_multiplied t (factor_done f (factor_in h k)) ≡ leads h n t (inner.step_multiplied t (inner.factor_done f k))
    (inner.ends_multiplied (inner.factor_done f k))
multiplied_steps h n t f (inner.first_factor k) = product_steps h n t f k
multiplied_steps h n t f (inner.next_factor products.Times p k) = product_steps h n t (Product p f) k
multiplied_steps h n t f (inner.next_factor products.Divide p k) = product_steps h n t (Quotient p f) k
multiplied_steps h n t f (inner.next_factor products.Remainder p k) = product_steps h n t (Remainder p f) k
multiplied_steps h n t f (inner.negative k) = multiplied_steps h n t (Negative f) k

name_steps : (h : Hole) (n : ℕ) (t : TokenKind) (x : List ℕ) (k : inner.FactorContext)
    → step_name t x (factor_in h k) ≡ leads h n t (inner.step_name t x k) (inner.ends_name x k)
name_steps h n OpenBracket x k = refl
name_steps h n t x k = multiplied_steps h n t (Variable x) k

steps : (h : Hole) (n : ℕ) (t : TokenKind) (i : Inside) → step (placed h i) n t ≡ leads h n t (inner.expression_step i t) (inner.whole_at i)
steps h n t (inner.at_unit k) = unit_steps h n t k
steps h n t (inner.after_conjunction c k) = conjunction_steps h n t c k
steps h n t (inner.after_guard g k) = guard_steps h n t g k
steps h n t (inner.at_factor k) = factor_steps h n t k
steps h n t (inner.after_name x k) = name_steps h n t x k
steps h n t (inner.after_product p k) = product_steps h n t p k
steps h n t (inner.after_sum s k) = sum_steps h n t s k

-- ---- no text ends there

stops : (h : Hole) (i : Inside) → finish_source (placed h i) ≡ None
stops h (inner.at_unit k) = refl
stops h (inner.after_conjunction c k) = refl
stops h (inner.after_guard g k) = refl
stops h (inner.at_factor k) = refl
stops h (inner.after_name x k) = refl
stops h (inner.after_product p k) = refl
stops h (inner.after_sum s k) = refl

behind_stops : (h : Hole) (w : Whole) → finish_source (behind h w) ≡ None
behind_stops h (whole_sum e) = refl
behind_stops h (whole_guard g) = refl

goes_by : (h : Hole) (t : Token) (ts : List Token) (o : Option Inside) (w : Option Whole)
    → take_token t (leads h t.place.line t.kind o w) (reading ts) None ≡ inner.take_expression_token t o (λ j. reading ts (placed h j)) w
    (λ v. reading (t ∷ ts) (behind h v))
goes_by h t ts (Some j) w = refl
goes_by h t ts None (Some w) = rw (behind_stops h w) refl
goes_by h t ts None None = none_stops t.kind (refusal (t ∷ []))

goes_on : (h : Hole) (t : Token) (ts : List Token) (i : Inside)
    → reading (t ∷ ts) (placed h i) ≡ inner.take_expression_token t (inner.expression_step i t.kind) (λ j. reading ts (placed h j)) (inner.whole_at i)
    (λ v. reading (t ∷ ts) (behind h v))
goes_on h t ts i = rw (steps h t.place.line t.kind i, stops h i) (goes_by h t ts (inner.expression_step i t.kind) (inner.whole_at i))

-- machine texts host sums and guards
pub hosts : (h : Hole) → HostsExpressions reading (placed h) (behind h)
hosts h = record { ends = λ i. refl; goes_on = goes_on h }

-- where a sum is read, for any guard
abbrev pub sums_at : SumContext → Hole
sums_at k = record {
  sums = k;
  guards =
      transition_guard
      (record {
        format = One;
        source = record { declarations = []; reset_line = 0; reset = []; states = [] };
        state = record { line = 0; name = []; transitions = [] };
      }) 0;
}

-- where a guard is read, for any sum
abbrev pub guards_at : GuardContext → Hole
guards_at k = record { sums = left (first_of_all (first_of_any k)); guards = k }
