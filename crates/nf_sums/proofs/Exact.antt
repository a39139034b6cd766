-- What the operations give: the normal form of the raw sum, with its meaning, where they are narrow and small.
use Rattle.std.proofs.Common.{◌≡◌, ℕ, ℤ, unsigned_abs, neg_ℤ, ◌+◌, ◌*◌, ◌<◌, ◌≤◌, nat_le, ◌+ℤ◌, ◌-ℤ◌, ◌*ℤ◌, Bool, true, false, cond, inl, inr, arith, refl, ap}
use Rattle.std.proofs.Common.{sym, subst, ◌∙◌}
use Rattle.std.specs.Prelude.{◌⊎◌}
use Rattle.std.proofs.lemmas.Int.{ints}
use Rattle.std.proofs.lemmas.Bool.{leb-true, le-leb, and_from}
use Rattle.nf_terms.proofs.Booleans.{by_test}
use Rattle.nf_trees.specs.NormalTerms.{Polynomial, polynomial_of_number}
use Rattle.nf_trees.specs.Measures.{size_of, weight_of, depth_of}
use Rattle.nf_terms.specs.TermMeaning.{Valuation, value_of}
use Rattle.nf_terms.specs.TermLimits.{weight_limit, size_limit, depth_limit}
use Rattle.nf_terms.specs.Normal.{IsNormal}
use Rattle.nf_terms.specs.RawSums.{raw_sum, raw_negation, raw_difference, raw_product, IsNormalFormOf}
use Rattle.nf_sums.specs.OrderedSums.{polynomial_fits, IsOrderedSum, IsOrderedProduct}
use Rattle.nf_terms.proofs.Simple.{number_normal}
use Rattle.nf_sums.proofs.Partings.{value_of_number}
use Rattle.nf_sums.proofs.Terms.{size-sum, weight-sum, fits-sum}
use Rattle.nf_sums.proofs.Worth.{worth-sum}
use Rattle.nf_sums.proofs.Forms.{negation_normal, negation_weight, negation_size, negation_value, negation_form, sum_form, sum_value, product_form}
use Rattle.nf_sums.proofs.Forms.{product_value}
use Rattle.nf_sums.proofs.Unique.{normal_forms_equal}
use Rattle.nf_terms.specs.Computed.{Computed, Done, Wide, Large, IfDone, if_small}
use Rattle.nf_sums.specs.RawSumForms.{normal_form}
use Rattle.nf_terms.specs.Means.{IsNumberOf}
use Rattle.nf_sums.specs.Operations.{operation, normal_sum, normal_difference, normal_product, normal_negation, number}
use Rattle.nf_sums.proofs.Collecting.{worth-form, worth-form_ordered, form_ordered, size-form, weight-form, fits-form}
use Rattle.nf_sums.proofs.RawProducts.{size-product, weight-product, fits-product, monomials_of_ordered, monomials_of_sum, atoms_of_monomials, atoms_of_product}

pub form_of_sum : (p q : Polynomial) → IsNormal p → IsNormal q → IsOrderedSum p q (normal_form (raw_sum p q))
form_of_sum p q m n =
    let o = monomials_of_sum p q (monomials_of_ordered p m.ordered) (monomials_of_ordered q n.ordered) in
    record {
      in_order = form_ordered (raw_sum p q) (atoms_of_monomials (raw_sum p q) o);
      worth = λ f. worth-form_ordered f (raw_sum p q) o ∙ worth-sum f p q;
      size = omega (arith, size-form (raw_sum p q), size-sum p q);
      weight = omega (arith, weight-form (raw_sum p q), weight-sum p q);
      inside = λ g h. fits-form (raw_sum p q) (fits-sum p q ∙ and_from (polynomial_fits p) (polynomial_fits q) g h);
    }

pub form_of_product : (p q : Polynomial) → IsNormal p → IsNormal q → IsOrderedProduct p q (normal_form (raw_product p q))
form_of_product p q m n = record {
  in_order = form_ordered (raw_product p q)
      (atoms_of_product p q (atoms_of_monomials p (monomials_of_ordered p m.ordered)) (atoms_of_monomials q (monomials_of_ordered q n.ordered)));
  worth = λ f i. worth-form f i (raw_product p q);
  size = omega (arith, size-form (raw_product p q), size-product p q);
  weight = omega (arith, weight-form (raw_product p q), weight-product p q);
  inside = λ g h. fits-form (raw_product p q) (fits-product p q g h);
}

-- a number is at most another, or not
not_le : (a b : ℕ) → ¬ (a ≤ b) → nat_le a b ≡ false
not_le a b n = by_value (nat_le a b) refl
  where
    by_value : (t : Bool) → nat_le a b ≡ t → t ≡ false
    by_value true e = absurd (n (leb-true a b e))
    by_value false e = refl

pub small_done : {T : Type 0} (units depth : ℕ) (t : T) → units ≤ size_limit → depth ≤ depth_limit → if_small units depth t ≡ Done t
small_done units depth t h k =
    ap (λ b. cond b (cond (nat_le depth depth_limit) (Done t) (Large units depth)) (Large units 0)) (le-leb units size_limit h)
    ∙ ap (λ b. cond b (Done t) (Large units depth)) (le-leb depth depth_limit k)

pub small_large : {T : Type 0} (units depth : ℕ) (t : T) → ¬ (units ≤ size_limit) → if_small units depth t ≡ Large units 0
small_large units depth t h = ap (λ b. cond b (cond (nat_le depth depth_limit) (Done t) (Large units depth)) (Large units 0)) (not_le units size_limit h)

pub small_deep : {T : Type 0} (units depth : ℕ) (t : T) → units ≤ size_limit → depth_limit < depth → if_small units depth t ≡ Large units depth
small_deep units depth t h k =
    ap (λ b. cond b (cond (nat_le depth depth_limit) (Done t) (Large units depth)) (Large units 0)) (le-leb units size_limit h)
    ∙ ap (λ b. cond b (Done t) (Large units depth)) (not_le depth depth_limit (λ e. omega arith))

module _ (p q raw : Polynomial) (weight units : ℕ) where
  within : weight ≤ weight_limit → operation p q weight units raw ≡ if_small units (depth_of (normal_form raw)) (normal_form raw)
  within h = ap (λ b. cond b (if_small units (depth_of (normal_form raw)) (normal_form raw)) (Wide (weight_of p) (weight_of q))) (le-leb weight weight_limit h)

  past : ¬ (weight ≤ weight_limit) → operation p q weight units raw ≡ Wide (weight_of p) (weight_of q)
  past h = ap (λ b. cond b (if_small units (depth_of (normal_form raw)) (normal_form raw)) (Wide (weight_of p) (weight_of q))) (not_le weight weight_limit h)

  module _ (form : weight ≤ weight_limit → units ≤ size_limit → IsNormalFormOf (normal_form raw) raw) where
    -- a form of the raw sum is what is computed, where the operation is narrow and small
    pub operation_gives : weight ≤ weight_limit → units ≤ size_limit → (s : Polynomial) → IsNormalFormOf s raw → operation p q weight units raw ≡ Done s
    operation_gives w u s h =
        let f = form w u in
        within w ∙ small_done units (depth_of (normal_form raw)) (normal_form raw) u f.normal.shallow
        ∙ ap Done (normal_forms_equal (normal_form raw) s f.normal h.normal (record { totals = λ bag. f.same.totals bag ∙ sym (h.same.totals bag) }))

    is_le : (a b : ℕ) → (a ≤ b) ⊎ ¬ (a ≤ b)
    is_le a b = by_value (nat_le a b) refl
      where
        by_value : (t : Bool) → nat_le a b ≡ t → (a ≤ b) ⊎ ¬ (a ≤ b)
        by_value true e = inl (leb-true a b e)
        by_value false e = inr (λ h. let f : true ≡ false = sym (le-leb a b h) ∙ e in cc)

    -- what is computed, with how it came
    pub data IsComputed : Computed Polynomial → Type 0 where
      IsDone : weight ≤ weight_limit → units ≤ size_limit → IsComputed (Done (normal_form raw))
      IsWide : ¬ (weight ≤ weight_limit) → IsComputed (Wide (weight_of p) (weight_of q))
      IsLarge : weight ≤ weight_limit → ¬ (units ≤ size_limit) → IsComputed (Large units 0)

    pub operation_is : IsComputed (operation p q weight units raw)
    operation_is = by_weight (is_le weight weight_limit) (is_le units size_limit)
      where
        by_weight : (weight ≤ weight_limit) ⊎ ¬ (weight ≤ weight_limit) → (units ≤ size_limit) ⊎ ¬ (units ≤ size_limit)
            → IsComputed (operation p q weight units raw)
        by_weight (inr n) u = subst IsComputed (sym (past n)) (IsWide n)
        by_weight (inl h) (inr n) = subst IsComputed (sym (within h ∙ small_large units (depth_of (normal_form raw)) (normal_form raw) n)) (IsLarge h n)
        by_weight (inl h) (inl k) =
            subst IsComputed (sym (within h ∙ small_done units (depth_of (normal_form raw)) (normal_form raw) k (form h k).normal.shallow)) (IsDone h k)

    -- what is computed is the form of the raw sum
    pub operation_form : IfDone (operation p q weight units raw) (λ s. IsNormalFormOf s raw)
    operation_form = by_cases (operation p q weight units raw) operation_is
      where
        by_cases : (c : Computed Polynomial) → IsComputed c → IfDone c (λ s. IsNormalFormOf s raw)
        by_cases c (IsDone h k) = form h k
        by_cases c (IsWide n) = tt
        by_cases c (IsLarge h n) = tt

module _ (p q : Polynomial) (m : IsNormal p) (n : IsNormal q) where
  form_added : weight_of p + weight_of q ≤ weight_limit → size_of p + size_of q ≤ size_limit → IsNormalFormOf (normal_form (raw_sum p q)) (raw_sum p q)
  form_added = sum_form p q (normal_form (raw_sum p q)) m n (form_of_sum p q m n)

  form_multiplied : weight_of p * weight_of q ≤ weight_limit → size_of p * size_of q ≤ size_limit
      → IsNormalFormOf (normal_form (raw_product p q)) (raw_product p q)
  form_multiplied = product_form p q (normal_form (raw_product p q)) m n (form_of_product p q m n)

  form_subtracted : weight_of p + weight_of q ≤ weight_limit → size_of p + size_of q ≤ size_limit
      → IsNormalFormOf (normal_form (raw_difference p q)) (raw_difference p q)
  form_subtracted w s =
      let k = negation_normal q n in
      sum_form p (raw_negation q) (normal_form (raw_difference p q)) m k (form_of_sum p (raw_negation q) m k) (omega (arith, w, negation_weight q))
      (omega (arith, s, negation_size q))

  pub sum_gives : weight_of p + weight_of q ≤ weight_limit → size_of p + size_of q ≤ size_limit → (s : Polynomial) → IsNormalFormOf s (raw_sum p q)
      → normal_sum p q ≡ Done s
  sum_gives = operation_gives p q (raw_sum p q) (weight_of p + weight_of q) (size_of p + size_of q) form_added

  pub product_gives : weight_of p * weight_of q ≤ weight_limit → size_of p * size_of q ≤ size_limit → (s : Polynomial) → IsNormalFormOf s (raw_product p q)
      → normal_product p q ≡ Done s
  product_gives = operation_gives p q (raw_product p q) (weight_of p * weight_of q) (size_of p * size_of q) form_multiplied

  pub difference_gives : weight_of p + weight_of q ≤ weight_limit → size_of p + size_of q ≤ size_limit → (s : Polynomial)
      → IsNormalFormOf s (raw_difference p q) → normal_difference p q ≡ Done s
  difference_gives = operation_gives p q (raw_difference p q) (weight_of p + weight_of q) (size_of p + size_of q) form_subtracted

  -- ---- forms and meaning
  pub added_form : IfDone (normal_sum p q) (λ s. IsNormalFormOf s (raw_sum p q))
  added_form = operation_form p q (raw_sum p q) (weight_of p + weight_of q) (size_of p + size_of q) form_added

  pub subtracted_form : IfDone (normal_difference p q) (λ s. IsNormalFormOf s (raw_difference p q))
  subtracted_form = operation_form p q (raw_difference p q) (weight_of p + weight_of q) (size_of p + size_of q) form_subtracted

  pub multiplied_form : IfDone (normal_product p q) (λ s. IsNormalFormOf s (raw_product p q))
  multiplied_form = operation_form p q (raw_product p q) (weight_of p * weight_of q) (size_of p * size_of q) form_multiplied

  means : (raw : Polynomial) (weight units : ℕ) (value : Valuation → ℤ) → (weight ≤ weight_limit → units ≤ size_limit → IsNormalFormOf (normal_form raw) raw)
      → ((w : Valuation) → value_of w (normal_form raw) ≡ value w) → IfDone (operation p q weight units raw) (IsNumberOf value)
  means raw weight units value form v = by_cases (operation p q weight units raw) (operation_is p q raw weight units form)
    where
      by_cases : (c : Computed Polynomial) → IsComputed p q raw weight units form c → IfDone c (IsNumberOf value)
      by_cases c (IsDone h k) = record { normal = (form h k).normal; means = v }
      by_cases c (IsWide n) = tt
      by_cases c (IsLarge h n) = tt

  pub added_means : IfDone (normal_sum p q) (IsNumberOf (λ w. value_of w p +ℤ value_of w q))
  added_means = means (raw_sum p q) (weight_of p + weight_of q) (size_of p + size_of q) _ form_added
      (sum_value p q (normal_form (raw_sum p q)) (form_of_sum p q m n))

  pub subtracted_means : IfDone (normal_difference p q) (IsNumberOf (λ w. value_of w p -ℤ value_of w q))
  subtracted_means =
      means (raw_difference p q) (weight_of p + weight_of q) (size_of p + size_of q) (λ w. value_of w p -ℤ value_of w q) form_subtracted
      (λ w. omega (
        arith,
        ints,
        sum_value p (raw_negation q) (normal_form (raw_difference p q)) (form_of_sum p (raw_negation q) m (negation_normal q n)) w,
        negation_value w q,
      ))

  pub multiplied_means : IfDone (normal_product p q) (IsNumberOf (λ w. value_of w p *ℤ value_of w q))
  multiplied_means = means (raw_product p q) (weight_of p * weight_of q) (size_of p * size_of q) _ form_multiplied
      (product_value p q (normal_form (raw_product p q)) (form_of_product p q m n))

pub negated_means : (p : Polynomial) → IsNormal p → IsNumberOf (λ w. neg_ℤ (value_of w p)) (normal_negation p)
negated_means p n = record { normal = negation_normal p n; means = λ w. negation_value w p }

pub negated_form : (p : Polynomial) → IsNormal p → IsNormalFormOf (normal_negation p) (raw_negation p)
negated_form p n = negation_form p n

pub number_means : (c : ℤ) → IfDone (number c) (IsNumberOf (λ w. c))
number_means c = by_test (λ o. IfDone o (IsNumberOf (λ w. c))) (Done (polynomial_of_number c)) (Wide (unsigned_abs c) 0) (nat_le (unsigned_abs c) weight_limit)
    (λ e. record { normal = number_normal c (leb-true (unsigned_abs c) weight_limit e); means = λ w. value_of_number w c }) (λ e. tt)

pub ruleset forms = (added_form, subtracted_form, multiplied_form, negated_form)

pub ruleset meanings = (added_means, subtracted_means, multiplied_means, negated_means, number_means)
