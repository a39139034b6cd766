-- What the operations give, where they give a term.
use Rattle.std.proofs.Common.{◌≡◌, ℕ, ◌+◌, ◌*◌, ℤ, Bool, true, false, cond, nat_le}
use Rattle.std.specs.Prelude.{unsigned_abs}
use Rattle.nf_trees.specs.NormalTerms.{Polynomial, polynomial_of_number}
use Rattle.nf_trees.specs.Measures.{size_of, weight_of}
use Rattle.nf_terms.specs.TermLimits.{weight_limit}
use Rattle.nf_terms.specs.RawSums.{raw_sum, raw_difference, raw_product}
use Rattle.nf_terms.specs.Computed.{Computed, Done, Wide, if_narrow}
use Rattle.nf_sums.specs.RawSumForms.{normal_form}
use Rattle.nf_sums.specs.Operations.{normal_sum, normal_difference, normal_product, number}
use Rattle.nf_sums.proofs.Values.{operation_is}

narrow_is : {T : Type 0} (left right weight : ℕ) (c : Computed T) (x : T) → if_narrow left right weight c ≡ Done x → c ≡ Done x
narrow_is {T} left right weight c x e = by_test (nat_le weight weight_limit) e
  where
    by_test : (b : Bool) → cond {A = Computed T} b c (Wide left right) ≡ Done x → c ≡ Done x
    by_test true h = h
    by_test false h = absurd (cc h)

pub sum_is : (p q r : Polynomial) → normal_sum p q ≡ Done r → normal_form (raw_sum p q) ≡ r
sum_is p q r e = operation_is p q (weight_of p + weight_of q) (size_of p + size_of q) (raw_sum p q) r e

pub difference_is : (p q r : Polynomial) → normal_difference p q ≡ Done r → normal_form (raw_difference p q) ≡ r
difference_is p q r e = operation_is p q (weight_of p + weight_of q) (size_of p + size_of q) (raw_difference p q) r e

pub product_is : (p q r : Polynomial) → normal_product p q ≡ Done r → normal_form (raw_product p q) ≡ r
product_is p q r e = operation_is p q (weight_of p * weight_of q) (size_of p * size_of q) (raw_product p q) r e

pub number_is : (c : ℤ) (r : Polynomial) → number c ≡ Done r → polynomial_of_number c ≡ r
number_is c r e = done_is (narrow_is (unsigned_abs c) 0 (unsigned_abs c) (Done (polynomial_of_number c)) r e)
  where
    done_is : Done (polynomial_of_number c) ≡ Done r → polynomial_of_number c ≡ r
    done_is h = cc h
