-- What raw sums and products are worth.
use Rattle.std.proofs.Common.{◌≡◌, ℤ, pos, ◌+ℤ◌, ◌*ℤ◌, neg_ℤ, Bool, true, false, cond, arith, refl, ap, sym, ◌∙◌}
use Rattle.std.proofs.lemmas.Int.{ints}
use Rattle.nf_trees.specs.NormalTerms.{Monomial, Polynomial, One, Times, Zero, Plus}
use Rattle.nf_terms.specs.TermMeaning.{Valuation, value_of_atom, value_of_monomial, value_of}
use Rattle.nf_terms.specs.RawSums.{raw_sum, raw_negation, raw_difference, monomial_product, raw_multiple, raw_product, same_bag, total}
use Rattle.nf_sums.proofs.Partings.{value-sum}
use Rattle.nf_sums.specs.OrderedSums.{worth_of}
use Rattle.nf_terms.proofs.Ring.{add-mul_z, mul-add_z, neg-mul_z, mul_assoc_z, mul_mul_z, one-mul_z}
use lib.IntN.{zero-*ℤ, *ℤ-zero}

pub worth-sum : (f : Monomial → ℤ) (p q : Polynomial) → worth_of f (raw_sum p q) ≡ worth_of f p +ℤ worth_of f q
worth-sum f Zero q = omega (arith, ints)
worth-sum f (Plus m c p) q = omega (arith, ints, worth-sum f p q)

pub worth-negation : (f : Monomial → ℤ) (p : Polynomial) → worth_of f (raw_negation p) ≡ neg_ℤ (worth_of f p)
worth-negation f Zero = refl
worth-negation f (Plus m c p) = omega (arith, ints, worth-negation f p, neg-mul_z c (f m))

pub worth-difference : (f : Monomial → ℤ) (p q : Polynomial) → worth_of f (raw_difference p q) ≡ worth_of f p +ℤ worth_of f (raw_negation q)
worth-difference f p q = worth-sum f p (raw_negation q)

worth-multiple : (f : Monomial → ℤ) (m : Monomial) (c : ℤ) (p q : Polynomial)
    → worth_of f (raw_multiple m c (raw_sum p q)) ≡ worth_of f (raw_multiple m c p) +ℤ worth_of f (raw_multiple m c q)
worth-multiple f m c Zero q = omega (arith, ints)
worth-multiple f m c (Plus n d p) q = omega (arith, ints, worth-multiple f m c p q)

-- the product with a sum on the left
pub worth-product_left : (f : Monomial → ℤ) (p q r : Polynomial)
    → worth_of f (raw_product (raw_sum p q) r) ≡ worth_of f (raw_product p r) +ℤ worth_of f (raw_product q r)
worth-product_left f Zero q r = omega (arith, ints)
worth-product_left f (Plus m c p) q r =
    omega (
      arith,
      ints,
      worth-product_left f p q r,
      worth-sum f (raw_multiple m c r) (raw_product (raw_sum p q) r),
      worth-sum f (raw_multiple m c r) (raw_product p r),
    )

-- the product with a sum on the right
pub worth-product_right : (f : Monomial → ℤ) (p q r : Polynomial)
    → worth_of f (raw_product p (raw_sum q r)) ≡ worth_of f (raw_product p q) +ℤ worth_of f (raw_product p r)
worth-product_right f Zero q r = omega (arith, ints)
worth-product_right f (Plus m c p) q r =
    omega (
      arith,
      ints,
      worth-product_right f p q r,
      worth-multiple f m c q r,
      worth-sum f (raw_multiple m c (raw_sum q r)) (raw_product p (raw_sum q r)),
      worth-sum f (raw_multiple m c q) (raw_product p q),
      worth-sum f (raw_multiple m c r) (raw_product p r),
    )

-- the value is the worth where each monomial is worth its value
pub value_worth : (w : Valuation) (p : Polynomial) → value_of w p ≡ worth_of (value_of_monomial w) p
value_worth w Zero = refl
value_worth w (Plus m c p) = omega (arith, ints, value_worth w p)

-- 1 for the monomials that are this bag
abbrev pub one_for : Monomial → Monomial → ℤ
one_for bag m = cond (same_bag bag m) (pos 1) (pos 0)

-- the total of a bag is the worth where it alone is worth 1
pub total_worth : (bag : Monomial) (p : Polynomial) → total bag p ≡ worth_of (one_for bag) p
total_worth bag Zero = refl
total_worth bag (Plus m c p) = omega (arith, ints, total_worth bag p, chosen (same_bag bag m) c)
  where
    chosen : (b : Bool) (c : ℤ) → cond b c (pos 0) ≡ c *ℤ cond b (pos 1) (pos 0)
    chosen true c = omega (arith, ints)
    chosen false c = omega (arith, ints)

pub value-joined : (w : Valuation) (m n : Monomial) → value_of_monomial w (monomial_product m n) ≡ value_of_monomial w m *ℤ value_of_monomial w n
value-joined w One n = sym (one-mul_z (value_of_monomial w n))
value-joined w (Times a m) n =
    ap (λ z. value_of_atom w a *ℤ z) (value-joined w m n) ∙ sym (mul_assoc_z (value_of_atom w a) (value_of_monomial w m) (value_of_monomial w n))

value-multiple : (w : Valuation) (m : Monomial) (c : ℤ) (q : Polynomial) → value_of w (raw_multiple m c q) ≡ c *ℤ value_of_monomial w m *ℤ value_of w q
value-multiple w m c Zero = sym (*ℤ-zero (c *ℤ value_of_monomial w m))
value-multiple w m c (Plus n d q) =
    let x = value_of_monomial w m in
    let y = value_of_monomial w n in
    omega (arith, ints, value-multiple w m c q, ap (λ z. c *ℤ d *ℤ z) (value-joined w m n), mul_mul_z c d x y, mul-add_z (c *ℤ x) (d *ℤ y) (value_of w q))

pub value-product : (w : Valuation) (p q : Polynomial) → value_of w (raw_product p q) ≡ value_of w p *ℤ value_of w q
value-product w Zero q = sym (zero-*ℤ (value_of w q))
value-product w (Plus m c p) q =
    omega (
      arith,
      ints,
      value-sum w (raw_multiple m c q) (raw_product p q),
      value-multiple w m c q,
      value-product w p q,
      add-mul_z (c *ℤ value_of_monomial w m) (value_of w p) (value_of w q),
    )
