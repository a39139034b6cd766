-- The size, the weight and the parts of a raw product.
use Rattle.std.proofs.Common.{◌≡◌, ◌+◌, ◌*◌, ◌≤◌, ℤ, true, unsigned_abs, arith, refl, ◌∙◌}
use Rattle.std.proofs.Math.Nat.{add-mul, mul-add}
use Rattle.std.proofs.lemmas.Int.{unsigned_abs-mul}
use Rattle.std.proofs.lemmas.Bool.{and_from}
use Rattle.nf_terms.proofs.Booleans.{and_first, and_second}
use Rattle.nf_trees.specs.NormalTerms.{Monomial, Polynomial, Zero, Plus}
use Rattle.nf_trees.specs.Measures.{size_of, size_of_monomial, weight_of}
use Rattle.nf_terms.specs.Normal.{ordered, ordered_monomial}
use Rattle.nf_terms.specs.RawSums.{raw_sum, raw_product, raw_multiple, monomial_product}
use Rattle.nf_sums.specs.OrderedSums.{polynomial_fits, fits_monomial}
use Rattle.nf_sums.proofs.Bags.{size-joined, fits-joined}
use Rattle.nf_sums.proofs.Terms.{size-sum, weight-sum, fits-sum}
use Rattle.nf_sums.proofs.Sorting.{atoms_ordered, atoms_of_ordered, atoms_of_joined}
use Rattle.nf_sums.proofs.Partings.{ordered_term}
use Rattle.nf_sums.proofs.Collecting.{atoms_in_order, monomials_ordered}

size-multiple : (m : Monomial) (c : ℤ) (q : Polynomial) → size_of (raw_multiple m c q) ≤ (1 + size_of_monomial m) * size_of q
size-multiple m c Zero = omega arith
size-multiple m c (Plus n d q) =
    let a = size_of_monomial m in
    let b = size_of_monomial n in
    omega (arith, size-multiple m c q, size-joined m n, mul-add (1 + a) (1 + b) (size_of q), mul-add (1 + a) 1 b, add-mul 1 a b)

pub size-product : (p q : Polynomial) → size_of (raw_product p q) ≤ size_of p * size_of q
size-product Zero q = omega arith
size-product (Plus m c p) q =
    omega (
      arith,
      size-sum (raw_multiple m c q) (raw_product p q),
      size-multiple m c q,
      size-product p q,
      add-mul (1 + size_of_monomial m) (size_of p) (size_of q),
    )

weight-multiple : (m : Monomial) (c : ℤ) (q : Polynomial) → weight_of (raw_multiple m c q) ≡ unsigned_abs c * weight_of q
weight-multiple m c Zero = omega arith
weight-multiple m c (Plus n d q) = omega (arith, weight-multiple m c q, unsigned_abs-mul c d, mul-add (unsigned_abs c) (unsigned_abs d) (weight_of q))

pub weight-product : (p q : Polynomial) → weight_of (raw_product p q) ≡ weight_of p * weight_of q
weight-product Zero q = omega arith
weight-product (Plus m c p) q =
    omega (
      arith,
      weight-sum (raw_multiple m c q) (raw_product p q),
      weight-multiple m c q,
      weight-product p q,
      add-mul (unsigned_abs c) (weight_of p) (weight_of q),
    )

fits-multiple : (m : Monomial) (c : ℤ) (q : Polynomial) → fits_monomial m ≡ true → polynomial_fits q ≡ true → polynomial_fits (raw_multiple m c q) ≡ true
fits-multiple m c Zero h k = refl
fits-multiple m c (Plus n d q) h k =
    and_from (fits_monomial (monomial_product m n)) (polynomial_fits (raw_multiple m c q))
    (fits-joined m n ∙ and_from (fits_monomial m) (fits_monomial n) h (and_first (fits_monomial n) (polynomial_fits q) k))
    (fits-multiple m c q h (and_second (fits_monomial n) (polynomial_fits q) k))

pub fits-product : (p q : Polynomial) → polynomial_fits p ≡ true → polynomial_fits q ≡ true → polynomial_fits (raw_product p q) ≡ true
fits-product Zero q h k = refl
fits-product (Plus m c p) q h k =
    fits-sum (raw_multiple m c q) (raw_product p q)
    ∙ and_from (polynomial_fits (raw_multiple m c q)) (polynomial_fits (raw_product p q))
    (fits-multiple m c q (and_first (fits_monomial m) (polynomial_fits p) h) k) (fits-product p q (and_second (fits_monomial m) (polynomial_fits p) h) k)

-- ---- atoms and monomials of ordered polynomials are in order

pub monomials_of_ordered : (p : Polynomial) → ordered p ≡ true → monomials_ordered p ≡ true
monomials_of_ordered Zero o = refl
monomials_of_ordered (Plus m c p) o = and_from (ordered_monomial m) (monomials_ordered p)
    (ordered_term m c p o).first (monomials_of_ordered p (ordered_term m c p o).rest)

pub monomials_of_sum : (p q : Polynomial) → monomials_ordered p ≡ true → monomials_ordered q ≡ true → monomials_ordered (raw_sum p q) ≡ true
monomials_of_sum Zero q h k = k
monomials_of_sum (Plus m c p) q h k =
    and_from (ordered_monomial m) (monomials_ordered (raw_sum p q)) (and_first (ordered_monomial m) (monomials_ordered p) h)
    (monomials_of_sum p q (and_second (ordered_monomial m) (monomials_ordered p) h) k)

pub atoms_of_monomials : (p : Polynomial) → monomials_ordered p ≡ true → atoms_in_order p ≡ true
atoms_of_monomials Zero h = refl
atoms_of_monomials (Plus m c p) h =
    and_from (atoms_ordered m) (atoms_in_order p) (atoms_of_ordered m (and_first (ordered_monomial m) (monomials_ordered p) h))
    (atoms_of_monomials p (and_second (ordered_monomial m) (monomials_ordered p) h))

pub atoms_of_sum : (p q : Polynomial) → atoms_in_order p ≡ true → atoms_in_order q ≡ true → atoms_in_order (raw_sum p q) ≡ true
atoms_of_sum Zero q h k = k
atoms_of_sum (Plus m c p) q h k =
    and_from (atoms_ordered m) (atoms_in_order (raw_sum p q)) (and_first (atoms_ordered m) (atoms_in_order p) h)
    (atoms_of_sum p q (and_second (atoms_ordered m) (atoms_in_order p) h) k)

atoms_of_multiple : (m : Monomial) (c : ℤ) (q : Polynomial) → atoms_ordered m ≡ true → atoms_in_order q ≡ true → atoms_in_order (raw_multiple m c q) ≡ true
atoms_of_multiple m c Zero h k = refl
atoms_of_multiple m c (Plus n d q) h k =
    and_from (atoms_ordered (monomial_product m n)) (atoms_in_order (raw_multiple m c q))
    (atoms_of_joined m n h (and_first (atoms_ordered n) (atoms_in_order q) k))
    (atoms_of_multiple m c q h (and_second (atoms_ordered n) (atoms_in_order q) k))

pub atoms_of_product : (p q : Polynomial) → atoms_in_order p ≡ true → atoms_in_order q ≡ true → atoms_in_order (raw_product p q) ≡ true
atoms_of_product Zero q h k = refl
atoms_of_product (Plus m c p) q h k =
    atoms_of_sum (raw_multiple m c q) (raw_product p q) (atoms_of_multiple m c q (and_first (atoms_ordered m) (atoms_in_order p) h) k)
    (atoms_of_product p q (and_second (atoms_ordered m) (atoms_in_order p) h) k)
