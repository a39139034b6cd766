-- What the operations give is the same as the raw sum.
use Rattle.std.proofs.Common.{◌≡◌, true}
use Rattle.nf_trees.specs.NormalTerms.{Polynomial}
use Rattle.nf_terms.specs.Computed.{Computed, Done, Wide, Large, IfDone}
use Rattle.nf_terms.specs.Normal.{IsNormal}
use Rattle.nf_terms.specs.RawSums.{raw_sum, raw_negation, raw_difference, raw_product, IsNormalFormOf}
use Rattle.nf_sums.specs.Operations.{normal_sum, normal_difference, normal_product, normal_negation}
use Rattle.nf_sums.specs.Sameness.{IsFormOf}
use Rattle.nf_sums.proofs.Collecting.{atoms_in_order}
use Rattle.nf_sums.proofs.RawProducts.{monomials_of_ordered, atoms_of_monomials, atoms_of_sum, atoms_of_product}
use Rattle.nf_sums.proofs.Forms.{negation_normal}
use Rattle.nf_sums.proofs.Settling.{same_of_totals}
use Rattle.nf_sums.proofs.Exact.{added_form, subtracted_form, multiplied_form, negated_form}

atoms_of_normal : (p : Polynomial) → IsNormal p → atoms_in_order p ≡ true
atoms_of_normal p n = atoms_of_monomials p (monomials_of_ordered p n.ordered)

form_again : (s raw : Polynomial) → atoms_in_order raw ≡ true → IsNormalFormOf s raw → IsFormOf s raw
form_again s raw o f = record { normal = f.normal; same = same_of_totals s raw (atoms_of_normal s f.normal) o f.same }

if_done : (raw : Polynomial) → atoms_in_order raw ≡ true → (c : Computed Polynomial) → IfDone c (λ s. IsNormalFormOf s raw) → IfDone c (λ s. IsFormOf s raw)
if_done raw o (Done s) f = form_again s raw o f
if_done raw o (Wide left right) f = tt
if_done raw o (Large units depth) f = tt

module _ (p q : Polynomial) (m : IsNormal p) (n : IsNormal q) where
  pub sum_given : IfDone (normal_sum p q) (λ s. IsFormOf s (raw_sum p q))
  sum_given = if_done (raw_sum p q) (atoms_of_sum p q (atoms_of_normal p m) (atoms_of_normal q n)) (normal_sum p q) (added_form p q m n)

  pub difference_given : IfDone (normal_difference p q) (λ s. IsFormOf s (raw_difference p q))
  difference_given = if_done (raw_difference p q)
      (atoms_of_sum p (raw_negation q) (atoms_of_normal p m) (atoms_of_normal (raw_negation q) (negation_normal q n))) (normal_difference p q)
      (subtracted_form p q m n)

  pub product_given : IfDone (normal_product p q) (λ s. IsFormOf s (raw_product p q))
  product_given = if_done (raw_product p q) (atoms_of_product p q (atoms_of_normal p m) (atoms_of_normal q n)) (normal_product p q) (multiplied_form p q m n)

pub negation_given : (p : Polynomial) → IsNormal p → IsFormOf (normal_negation p) (raw_negation p)
negation_given p n = form_again (normal_negation p) (raw_negation p) (atoms_of_normal (raw_negation p) (negation_normal p n)) (negated_form p n)

pub ruleset given = (sum_given, difference_given, product_given, negation_given)
