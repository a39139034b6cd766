-- The constant part of a polynomial in order, and polynomials that differ by a constant.
use Rattle.std.proofs.Common.{◌≡◌, Bool, true, false, refl, ap, sym, ◌∙◌, arith}
use Rattle.std.proofs.lemmas.Int.{ints}
use Rattle.std.specs.Ordering.{is_eq}
use Rattle.nf_terms.proofs.Orderings.{is_eq-true}
use Rattle.nf_trees.specs.NormalTerms.{Polynomial, One, Times, Zero, Plus, polynomial_of_number}
use Rattle.nf_trees.specs.Order.{cmp_polynomial, same_polynomial}
use Rattle.nf_trees.specs.TermKeys.{polynomial_ties, polynomial_same}
use Rattle.nf_terms.specs.Normal.{ordered, part_with_atoms, constant_part, differ_by_constant}
use Rattle.nf_terms.specs.RawSums.{raw_sum}
use Rattle.nf_terms.specs.Normal.{constant_sum}
use Rattle.nf_sums.proofs.Partings.{last_one, parted}
use Rattle.nf_sums.proofs.Partings.{ordered_term}

-- polynomials that are the same are equal
pub equal_of_same : (p q : Polynomial) → same_polynomial p q ≡ true → p ≡ q
equal_of_same p q e = polynomial_ties p q (is_eq-true (cmp_polynomial p q) e)

pub same_of_equal : (p q : Polynomial) → p ≡ q → same_polynomial p q ≡ true
same_of_equal p q e = ap is_eq (polynomial_same p q e)

-- the other way round
pub other_turned : (p q : Polynomial) → same_polynomial p q ≡ false → same_polynomial q p ≡ false
other_turned p q e = by_value (same_polynomial q p) refl
  where
    by_value : (t : Bool) → same_polynomial q p ≡ t → t ≡ false
    by_value true f = absurd (let g : same_polynomial p q ≡ true = same_of_equal p q (sym (equal_of_same q p f)) in cc)
    by_value false f = refl

-- the monomials with atoms are the same
pub parts_equal : (p q : Polynomial) → differ_by_constant p q ≡ true → part_with_atoms p ≡ part_with_atoms q
parts_equal p q d = equal_of_same (part_with_atoms p) (part_with_atoms q) d

-- ordered polynomials that differ by a constant and have the same constant part are equal
pub equal_by_parts : (p q : Polynomial) → ordered p ≡ true → ordered q ≡ true → differ_by_constant p q ≡ true → constant_part p ≡ constant_part q → p ≡ q
equal_by_parts p q o r d e = parted p o ∙ (λ k. raw_sum (parts_equal p q d k) (polynomial_of_number (e k))) ∙ sym (parted q r)

-- the constants of an ordered polynomial are its constant part
pub constant_is : (p : Polynomial) → ordered p ≡ true → constant_part p ≡ constant_sum p
constant_is Zero o = refl
constant_is (Plus One c p) o = let z = ap constant_sum (last_one c p o) in omega (arith, ints, z)
constant_is (Plus (Times a m) c p) o = constant_is p (ordered_term (Times a m) c p o).rest

-- ordered polynomials with the same monomials with atoms and the same constants are equal
pub equal_by_sums : (p q : Polynomial) → ordered p ≡ true → ordered q ≡ true → differ_by_constant p q ≡ true → constant_sum p ≡ constant_sum q → p ≡ q
equal_by_sums p q o r d e = equal_by_parts p q o r d (constant_is p o ∙ e ∙ sym (constant_is q r))
