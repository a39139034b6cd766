-- New atoms.
use Rattle.std.proofs.Common.{◌≡◌, ℕ, suc, ◌+◌, ◌*◌, ◌/◌, ◌%◌, ◌<◌, ◌^◌, ◌≤◌, ℤ, pos, negsuc, neg_ℤ, Bool, true, false, cond, ◌&&◌, not, unsigned_abs, arith}
use Rattle.std.proofs.Common.{ap, sym, ◌∙◌, Option, None, Some, MatchOption}
use Rattle.std.specs.Prelude.{◌≢◌, int_rem}
use Rattle.std.specs.Ordering.{int_eq}
use Rattle.std.proofs.lemmas.Bool.{leb-true, and_from}
use Rattle.std.proofs.lemmas.Int.{ints}
use Rattle.std.proofs.lemmas.Nat.{div-add-mod'}
use Rattle.base_laws.specs.Division.{remainder}
use Rattle.base_laws.proofs.Booleans.{and_first}
use Rattle.nf_trees.specs.NormalTerms.{Polynomial, ArrayTerm, Read, Quotient, Remainder, One, Times, Zero, Plus}
use Rattle.nf_trees.specs.Measures.{weight_of}
use Rattle.nf_terms.specs.Normal.{IsNormal, IsNormalArray, ordered, ordered_array, stays_read, is_constant, constant_part, is_light, narrow_inside}
use Rattle.nf_terms.specs.Normal.{narrow_array}
use Rattle.nf_terms.specs.TermLimits.{weight_limit}
use Rattle.nf_terms.specs.Normal.{constant_sum}
use Rattle.nf_sums.proofs.Constants.{constant_is}
use Rattle.nf_arrays.specs.NewAtoms.{IsNewAtom}

pub constant_light : (p : Polynomial) → unsigned_abs (constant_part p) ≤ weight_of p
constant_light Zero = omega arith
constant_light (Plus One c p) = omega arith
constant_light (Plus (Times a m) c p) = omega (arith, constant_light p)

-- the number that a normal polynomial is
pub constant_number : (p : Polynomial) (c : ℤ) → IsNormal p → c ≡ constant_part p → unsigned_abs c < 2 ^ 127
constant_number p c n e = omega (
  arith,
  constant_light p,
  ap unsigned_abs e,
  leb-true (weight_of p) weight_limit (and_first (is_light p) (narrow_inside p) n.narrow),
)

-- the number that a normal polynomial is: the sum of its constants
pub number_sum : (p : Polynomial) (o : Option ℤ) → IsNormal p → MatchOption o (is_constant p ≡ false) (λ c. (is_constant p ≡ true) × (c ≡ constant_part p))
    → MatchOption o (is_constant p ≡ false) (λ c. c ≡ constant_sum p)
number_sum p None n h = h
number_sum p (Some c) n h = h.1 ∙ constant_is p n.ordered

pub number_small : (p : Polynomial) (o : Option ℤ) → IsNormal p → MatchOption o (is_constant p ≡ false) (λ c. (is_constant p ≡ true) × (c ≡ constant_part p))
    → MatchOption o (is_constant p ≡ false) (λ c. unsigned_abs c < 2 ^ 127)
number_small p None n h = h
number_small p (Some c) n h = constant_number p c n h.1

and_deep : (a b c d : Bool) → (a && b) ≡ true → (c && d) ≡ true → (a && b && c && d) ≡ true
and_deep true true c d p q = q
and_deep true false c d p q = cc
and_deep false b c d p q = cc

module _ (p q : Polynomial) (m : IsNormal p) (n : IsNormal q) (h : is_constant p && is_constant q ≡ false) where
  pub new_quotient : IsNewAtom (Quotient p q)
  new_quotient = record {
    in_order = and_from (ordered p && ordered q) (not (is_constant p && is_constant q)) (and_from (ordered p) (ordered q) m.ordered n.ordered) (ap not h);
    narrow = and_deep (is_light p) (narrow_inside p) (is_light q) (narrow_inside q) m.narrow n.narrow;
    size = omega (arith, m.small, n.small);
    depth = omega (arith, m.shallow, n.shallow);
  }

  pub new_remainder : IsNewAtom (Remainder p q)
  new_remainder = record {
    in_order = and_from (ordered p && ordered q) (not (is_constant p && is_constant q)) (and_from (ordered p) (ordered q) m.ordered n.ordered) (ap not h);
    narrow = and_deep (is_light p) (narrow_inside p) (is_light q) (narrow_inside q) m.narrow n.narrow;
    size = omega (arith, m.small, n.small);
    depth = omega (arith, m.shallow, n.shallow);
  }

pub new_read : (a : ArrayTerm) (i : Polynomial) → IsNormalArray a → IsNormal i → stays_read a i ≡ true → IsNewAtom (Read a i)
new_read a i m n s = record {
  in_order = and_from (ordered_array a && ordered i) (stays_read a i) (and_from (ordered_array a) (ordered i) m.ordered n.ordered) s;
  narrow = joined (narrow_array a) (is_light i) (narrow_inside i) m.narrow n.narrow;
  size = omega (arith, m.small, n.small);
  depth = omega (arith, m.shallow, n.shallow);
}
  where
    joined : (x y z : Bool) → x ≡ true → (y && z) ≡ true → (x && y && z) ≡ true
    joined true y z p q = q
    joined false y z p q = cc

-- ---- remainders of numbers

sum_part : (t r n : ℕ) → t + r ≡ n → r ≤ n
sum_part t r n e = omega (arith, e)

mod_at_most : (n m : ℕ) → n % m ≤ n
mod_at_most n m = sum_part (n / m * m) (n % m) n (div-add-mod' n m)

rem_at_most : (a b : ℤ) → unsigned_abs (int_rem a b) ≤ unsigned_abs a
rem_at_most (pos m) b = mod_at_most m (unsigned_abs b)
rem_at_most (negsuc m) b = omega (arith, ints, mod_at_most (suc m) (unsigned_abs b))

remainder_at_most : (a b : ℤ) → unsigned_abs (remainder a b) ≤ unsigned_abs a
remainder_at_most a b = by_test (int_eq b (pos 0)) (rem_at_most a b)
  where
    by_test : (t : Bool) → unsigned_abs (int_rem a b) ≤ unsigned_abs a → unsigned_abs (cond t (pos 0) (int_rem a b)) ≤ unsigned_abs a
    by_test true h = omega arith
    by_test false h = h

-- a remainder of a number that is small is not the least number
pub remainder_is_small : (a b r : ℤ) → unsigned_abs a < 2 ^ 127 → r ≡ remainder a b → r ≢ neg_ℤ (pos (2 ^ 127))
remainder_is_small a b r h e is = omega (arith, remainder_at_most a b, h, ap unsigned_abs (sym e ∙ is))
