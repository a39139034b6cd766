-- What a raw sum with nothing, and a product with no atom, are.
use Rattle.std.proofs.Common.{◌≡◌, refl, ap}
use Rattle.nf_trees.specs.NormalTerms.{Monomial, Polynomial, One, Times, Zero, Plus}
use Rattle.nf_terms.specs.RawSums.{raw_sum, monomial_product}

pub sum_with_zero : (p : Polynomial) → raw_sum p Zero ≡ p
sum_with_zero Zero = refl
sum_with_zero (Plus m c p) = ap (Plus m c) (sum_with_zero p)

pub product_with_one : (m : Monomial) → monomial_product m One ≡ m
product_with_one One = refl
product_with_one (Times a m) = ap (Times a) (product_with_one m)
