-- The operators that a sum, a guard or an assignment needs are among its words.
use Rattle.std.proofs.Common.{◌≡◌, ℕ, zero, suc, ◌+◌, ◌≤◌, ◌<◌, List, [], ◌∷◌, ◌++◌, refl, ap, cond, arith}
use Rattle.std.specs.Prelude.{Bool, true, false, ◌||◌, IsTrue}
use Rattle.fs_model.specs.Expressions.{Expression, Guard, Assignment}
use Rattle.fs_model.specs.WellFormed.{is_sum, is_product, is_and, is_or, operators_of_expression, operators_of_guard, operators_of_assignment}
use Rattle.fs_grammar.specs.declared.format.Format.TheVariants.{One}
use Rattle.fs_grammar.specs.declared.token.TokenKind.{TokenKind}
use Rattle.fs_grammar.specs.declared.token.TokenKind.TheVariants.{Equals, CloseParen, CloseBracket, CloseBrace, Plus, Minus, Star, Slash, Percent, AndAnd, OrOr}
use Rattle.fs_grammar.specs.declared.token.TokenKind.TheVariants.{Relation}
use Rattle.fs_grammar.specs.Operators.{is_operator}
use Rattle.fs_grammar.specs.Spelling as grammar
use Rattle.fs_grammar.specs.Spelling.{Word, at, IsFactor, IsProduct, IsSum, IsUnit, IsConjunction, IsGuard, IsAssignment}
use Rattle.fs_lex.proofs.Operators.{operators_of_unit, operators_of_conjunction, operators_of_factor, operators_of_product, bracket_less-left}
use Rattle.fs_lex.proofs.Operators.{bracket_less, at_most_one}
use Rattle.hls_program_parts.specs.ProgramLimits.{word_operator_count, token_kind_of}

pub count_append : (a b : List Word) → word_operator_count (a ++ b) ≡ word_operator_count a + word_operator_count b
count_append [] b = omega arith
count_append (at n t ∷ a) b = omega (arith, count_append a b)

mutual
  factor_counts : (f : Expression (List ℕ)) (a : List Word) → IsFactor f a → operators_of_factor f ≤ word_operator_count a
  factor_counts _ _ (grammar.number n i) = omega arith
  factor_counts _ _ (grammar.variable n x) = omega arith
  factor_counts _ _ (grammar.read n m k x {s} {a} d) = omega (arith, count_append a (at k CloseBracket ∷ []), sum_counts s a d)
  factor_counts _ _ (grammar.negative n {f} {a} d) = omega (arith, factor_counts f a d)
  factor_counts _ _ (grammar.group n m {s} {a} d) =
      omega (arith, count_append a (at m CloseParen ∷ []), sum_counts s a d, at_most_one (is_sum s || is_product s))

  product_counts : (p : Expression (List ℕ)) (a : List Word) → IsProduct p a → operators_of_product p ≤ word_operator_count a
  product_counts _ _ (grammar.factor {f} {a} d) = omega (arith, factor_counts f a d, bracket_less-left (is_sum f) (is_product f))
  product_counts _ _ (grammar.times n {p} {f} {a} {b} d e) = omega (arith, count_append a (at n Star ∷ b), product_counts p a d, factor_counts f b e)
  product_counts _ _ (grammar.divides n {p} {f} {a} {b} d e) = omega (arith, count_append a (at n Slash ∷ b), product_counts p a d, factor_counts f b e)
  product_counts _ _ (grammar.remainder_of n {p} {f} {a} {b} d e) = omega (arith, count_append a (at n Percent ∷ b), product_counts p a d, factor_counts f b e)

  sum_counts : (s : Expression (List ℕ)) (a : List Word) → IsSum s a → operators_of_expression s ≤ word_operator_count a
  sum_counts _ _ (grammar.product {p} {a} d) = omega (arith, product_counts p a d)
  sum_counts _ _ (grammar.plus n {s} {p} {a} {b} d e) = omega (arith, count_append a (at n Plus ∷ b), sum_counts s a d, product_counts p b e)
  sum_counts _ _ (grammar.minus n {s} {p} {a} {b} d e) = omega (arith, count_append a (at n Minus ∷ b), sum_counts s a d, product_counts p b e)

mutual
  unit_counts : (u : Guard (List ℕ)) (a : List Word) → IsUnit u a → operators_of_unit u ≤ word_operator_count a
  unit_counts _ _ (grammar.not n {u} {a} d) = omega (arith, unit_counts u a d)
  unit_counts _ _ (grammar.braces n m {g} {a} d) = omega (arith, count_append a (at m CloseBrace ∷ []), guard_counts g a d, at_most_one (is_and g || is_or g))
  unit_counts _ _ (grammar.literal n r {l} {s} {a} {b} d e) = omega (arith, count_append a (at n (Relation r) ∷ b), sum_counts l a d, sum_counts s b e)

  conjunction_counts : (c : Guard (List ℕ)) (a : List Word) → IsConjunction c a → operators_of_conjunction c ≤ word_operator_count a
  conjunction_counts _ _ (grammar.unit {u} {a} d) = omega (arith, unit_counts u a d, bracket_less (is_and u) (is_or u))
  conjunction_counts _ _ (grammar.and n {c} {u} {a} {b} d e) = omega (arith, count_append a (at n AndAnd ∷ b), conjunction_counts c a d, unit_counts u b e)

  pub guard_counts : (g : Guard (List ℕ)) (a : List Word) → IsGuard g a → operators_of_guard g ≤ word_operator_count a
  guard_counts _ _ (grammar.conjunction {c} {a} d) = omega (arith, conjunction_counts c a d)
  guard_counts _ _ (grammar.or n {g} {c} {a} {b} d e) = omega (arith, count_append a (at n OrOr ∷ b), guard_counts g a d, conjunction_counts c b e)

pub assignment_counts : (x : Assignment (List ℕ)) (a : List Word) → IsAssignment One x a → operators_of_assignment x ≤ word_operator_count a
assignment_counts _ _ (grammar.assign _ n {e} {b} (grammar.scalar_name m x) q) = omega (arith, sum_counts e b q)
assignment_counts _ _ (grammar.assign _ n {e} {b} (grammar.element_at m j k x {s} {a} p) q) =
    omega (arith, count_append (a ++ at k CloseBracket ∷ []) (at n Equals ∷ b), count_append a (at k CloseBracket ∷ []), sum_counts s a p, sum_counts e b q)

-- ---- the words before an operator, where so many others stand before it

pub record Split (k : ℕ) (c : List Word) : Type 0 where
  pub part : List Word
  pub next : Word
  pub behind : List Word
  pub is : c ≡ part ++ next ∷ behind
  pub operator : IsTrue (is_operator (token_kind_of next))
  pub full : word_operator_count part ≡ k

behind_one : (b : Bool) (k n : ℕ) → b ≡ true → n ≡ k → cond b 1 0 + n ≡ suc k
behind_one true k n e f = omega (arith, f)
behind_one false k n e f = absurd cc

behind_none : (b : Bool) (k n : ℕ) → b ≡ false → n ≡ k → cond b 1 0 + n ≡ k
behind_none true k n e f = absurd cc
behind_none false k n e f = omega (arith, f)

split_at : (n : ℕ) (t : TokenKind) (c : List Word) (k : ℕ) (b : Bool) → is_operator t ≡ b → k < cond b 1 0 + word_operator_count c
    → ((j : ℕ) → j < word_operator_count c → Split j c) → Split k (at n t ∷ c)
split_at n t c k false e h go =
    let s : Split k c = go k (omega (arith, h)) in
    record {
      part = at n t ∷ s.part;
      next = s.next;
      behind = s.behind;
      is = ap (λ (l : List Word). at n t ∷ l) s.is;
      operator = s.operator;
      full = behind_none (is_operator t) k (word_operator_count s.part) e s.full;
    }
split_at n t c zero true e h go = record { part = []; next = at n t; behind = c; is = refl; operator = e; full = refl }
split_at n t c (suc k) true e h go =
    let s : Split k c = go k (omega (arith, h)) in
    record {
      part = at n t ∷ s.part;
      next = s.next;
      behind = s.behind;
      is = ap (λ (l : List Word). at n t ∷ l) s.is;
      operator = s.operator;
      full = behind_one (is_operator t) k (word_operator_count s.part) e s.full;
    }

pub split : (c : List Word) (k : ℕ) → k < word_operator_count c → Split k c
split [] k h = absurd (omega (arith, h))
split (at n t ∷ c) k h = split_at n t c k (is_operator t) refl h (λ j i. split c j i)
