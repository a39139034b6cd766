-- Ordered sums, taken apart: the first monomial and the rest; the part with atoms and the constant.
use Rattle.std.proofs.Common.{◌≡◌, ℕ, ◌+◌, ℤ, pos, ◌+ℤ◌, Bool, true, false, ◌&&◌, not, cond, refl, ap, sym, ◌∙◌, arith}
use Rattle.std.proofs.lemmas.Int.{ints}
use Rattle.std.proofs.lemmas.Bool.Decides.{nat_tests}
use Rattle.std.specs.Cmp.{signed_Decides}
use Rattle.std.specs.declared.cmp.Ordering.TheVariants.{Less, Greater}
use Rattle.std.specs.Ordering.{is_lt, int_eq, nat_cmp, ordering_then}
use Rattle.std.proofs.lemmas.Bool.{and_from, not-true}
use Rattle.nf_terms.proofs.Booleans.{and_first, and_second}
use Rattle.nf_terms.proofs.Orderings.{is_lt-true}
use Rattle.nf_trees.specs.NormalTerms.{Monomial, Polynomial, One, Times, Zero, Plus, polynomial_of_number}
use Rattle.nf_trees.specs.Order.{degree, cmp_atoms, cmp_monomial}
use Rattle.nf_terms.specs.Normal.{ordered, ordered_monomial, monomial_rises, part_with_atoms, constant_part}
use Rattle.nf_terms.specs.RawSums.{raw_sum}
use Rattle.nf_trees.specs.Comparison.{monomials_total}
use Rattle.nf_terms.specs.TermMeaning.{Valuation, value_of}

-- the first monomial of an ordered sum, and the rest
pub record IsOrderedTerm (m : Monomial) (c : ℤ) (p : Polynomial) : Type 0 where
  pub nonzero : int_eq c (pos 0) ≡ false
  pub first : ordered_monomial m ≡ true
  pub rises : monomial_rises m p ≡ true
  pub rest : ordered p ≡ true

pub ordered_term : (m : Monomial) (c : ℤ) (p : Polynomial) → ordered (Plus m c p) ≡ true → IsOrderedTerm m c p
ordered_term m c p o =
    let z = not (int_eq c (pos 0)) in
    let a : z && ordered_monomial m && monomial_rises m p ≡ true = and_first (z && ordered_monomial m && monomial_rises m p) (ordered p) o in
    let b : z && ordered_monomial m ≡ true = and_first (z && ordered_monomial m) (monomial_rises m p) a in
    record {
      nonzero = not-true (int_eq c (pos 0)) (and_first z (ordered_monomial m) b);
      first = and_second z (ordered_monomial m) b;
      rises = and_second (z && ordered_monomial m) (monomial_rises m p) a;
      rest = and_second (z && ordered_monomial m && monomial_rises m p) (ordered p) o;
    }

pub term_ordered : (m : Monomial) (c : ℤ) (p : Polynomial) → IsOrderedTerm m c p → ordered (Plus m c p) ≡ true
term_ordered m c p t =
    let z = not (int_eq c (pos 0)) in
    and_from (z && ordered_monomial m && monomial_rises m p) (ordered p)
    (and_from (z && ordered_monomial m) (monomial_rises m p) (and_from z (ordered_monomial m) (ap not t.nonzero) t.first) t.rises) t.rest

-- what stands before k stands before all that k stands before
pub rises_through : (n k : Monomial) (p : Polynomial) → cmp_monomial n k ≡ Less → monomial_rises k p ≡ true → monomial_rises n p ≡ true
rises_through n k Zero l r = refl
rises_through n k (Plus m c p) l r = ap is_lt (monomials_total.trans n k m l (is_lt-true (cmp_monomial k m) r))

more_than_none : (n : ℕ) → nat_cmp (1 + n) 0 ≡ Greater
more_than_none n = grind (arith, nat_tests)

-- the monomial without atoms is the last
pub last_one : (c : ℤ) (p : Polynomial) → ordered (Plus One c p) ≡ true → p ≡ Zero
last_one c Zero o = refl
last_one c (Plus One d q) o = absurd (let r : false ≡ true = (ordered_term One c (Plus One d q) o).rises in cc)
last_one c (Plus (Times a m) d q) o =
    absurd (let r = (ordered_term One c (Plus (Times a m) d q) o).rises in
    let s : is_lt (ordering_then (nat_cmp (1 + degree m) 0) (cmp_atoms One (Times a m))) ≡ false =
    ap (λ t. is_lt (ordering_then t (cmp_atoms One (Times a m)))) (more_than_none (degree m)) in let t : false ≡ true = sym s ∙ r in cc)

number_is : (c : ℤ) → int_eq c (pos 0) ≡ false → polynomial_of_number c ≡ Plus One c Zero
number_is c f = by_value (int_eq c (pos 0)) f
  where
    by_value : (t : Bool) → t ≡ false → cond t Zero (Plus One c Zero) ≡ Plus One c Zero
    by_value true g = cc
    by_value false g = refl

-- an ordered sum is its monomials with atoms, and then its constant part
pub parted : (p : Polynomial) → ordered p ≡ true → p ≡ raw_sum (part_with_atoms p) (polynomial_of_number (constant_part p))
parted Zero o = refl
parted (Plus One c p) o =
    let e : p ≡ Zero = last_one c p o in
    ap (Plus One c) e ∙ sym (ap (λ q. raw_sum (part_with_atoms q) (polynomial_of_number c)) e ∙ number_is c (ordered_term One c p o).nonzero)
parted (Plus (Times a m) c p) o = ap (Plus (Times a m) c) (parted p (ordered_term (Times a m) c p o).rest)

-- ---- values

pub value_of_number : (w : Valuation) (c : ℤ) → value_of w (polynomial_of_number c) ≡ c
value_of_number w c = by_value (int_eq c (pos 0)) refl
  where
    by_value : (t : Bool) → int_eq c (pos 0) ≡ t → value_of w (cond t Zero (Plus One c Zero)) ≡ c
    by_value true e = sym ((signed_Decides c (pos 0)).0 e)
    by_value false e = omega (arith, ints)

pub value-sum : (w : Valuation) (p q : Polynomial) → value_of w (raw_sum p q) ≡ value_of w p +ℤ value_of w q
value-sum w Zero q = omega (arith, ints)
value-sum w (Plus m c p) q = omega (arith, ints, value-sum w p q)

-- the value of an ordered sum
pub value_parted : (w : Valuation) (p : Polynomial) → ordered p ≡ true → value_of w p ≡ value_of w (part_with_atoms p) +ℤ constant_part p
value_parted w p o = ap (value_of w) (parted p o) ∙ value-sum w (part_with_atoms p) (polynomial_of_number (constant_part p))
    ∙ ap (λ z. value_of w (part_with_atoms p) +ℤ z) (value_of_number w (constant_part p))

pub ruleset partings = (parted, value_parted)
