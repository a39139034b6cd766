-- Ordered sums and products are normal forms.
use Rattle.std.proofs.Common.{◌≡◌, ◌+◌, ◌*◌, ◌≤◌, ℤ, pos, ◌+ℤ◌, ◌*ℤ◌, neg_ℤ, Bool, true, false, ◌&&◌, arith, refl, ap, sym, subst, ◌∙◌}
use Rattle.std.proofs.lemmas.Int.{ints}
use Rattle.std.proofs.lemmas.Bool.{le-leb, and_from}
use Rattle.std.specs.Ordering.{int_eq}
use Rattle.std.specs.Cmp.{signed_Decides}
use Rattle.nf_terms.proofs.Integers.{unsigned_abs-neg}
use Rattle.nf_trees.specs.NormalTerms.{Polynomial, Zero, Plus}
use Rattle.nf_trees.specs.Measures.{size_of, weight_of, depth_of}
use Rattle.nf_terms.specs.TermMeaning.{Valuation, value_of, value_of_monomial}
use Rattle.nf_terms.specs.TermLimits.{size_limit, weight_limit}
use Rattle.nf_terms.specs.Normal.{IsNormal, ordered, monomial_rises, is_light, narrow_inside, narrow_monomial}
use Rattle.nf_terms.specs.RawSums.{raw_sum, raw_negation, raw_difference, raw_product, IsNormalFormOf}
use Rattle.nf_sums.specs.OrderedSums.{worth_of, polynomial_fits, IsOrderedSum, IsOrderedProduct}
use Rattle.nf_sums.proofs.Worth.{worth-sum, worth-negation, value_worth, total_worth, one_for, value-product}
use Rattle.nf_sums.proofs.Bags.{bag_ignores, value_ignores}
use Rattle.nf_sums.proofs.Within.{narrow_of, shallow_of, normal_fits}

-- an ordered polynomial within the limits is normal
normal_of : (s : Polynomial) → ordered s ≡ true → size_of s ≤ size_limit → weight_of s ≤ weight_limit → polynomial_fits s ≡ true → IsNormal s
normal_of s o n w f = record {
  ordered = o;
  small = n;
  shallow = shallow_of s f;
  narrow = and_from (is_light s) (narrow_inside s) (le-leb (weight_of s) weight_limit w) (narrow_of s f);
}

module _ (p q s : Polynomial) (m : IsNormal p) (n : IsNormal q) where
  pub sum_form : IsOrderedSum p q s → weight_of p + weight_of q ≤ weight_limit → size_of p + size_of q ≤ size_limit → IsNormalFormOf s (raw_sum p q)
  sum_form h w k = record {
    normal = normal_of s h.in_order (omega (arith, h.size)) (omega (arith, h.weight)) (h.inside (normal_fits p m) (normal_fits q n));
    same = record { totals = λ bag. total_worth bag s ∙ h.worth (one_for bag) ∙ sym (worth-sum (one_for bag) p q) ∙ sym (total_worth bag (raw_sum p q)) };
  }

  pub product_form : IsOrderedProduct p q s → weight_of p * weight_of q ≤ weight_limit → size_of p * size_of q ≤ size_limit → IsNormalFormOf s (raw_product p q)
  product_form h w k = record {
    normal = normal_of s h.in_order (omega (arith, h.size)) (omega (arith, h.weight)) (h.inside (normal_fits p m) (normal_fits q n));
    same = record { totals = λ bag. total_worth bag s ∙ h.worth (one_for bag) (bag_ignores bag) ∙ sym (total_worth bag (raw_product p q)) };
  }

pub sum_value : (p q s : Polynomial) → IsOrderedSum p q s → (w : Valuation) → value_of w s ≡ value_of w p +ℤ value_of w q
sum_value p q s h w = value_worth w s ∙ h.worth (value_of_monomial w) ∙ ap (λ z. z +ℤ worth_of (value_of_monomial w) q) (sym (value_worth w p))
    ∙ ap (λ z. value_of w p +ℤ z) (sym (value_worth w q))

pub product_value : (p q s : Polynomial) → IsOrderedProduct p q s → (w : Valuation) → value_of w s ≡ value_of w p *ℤ value_of w q
product_value p q s h w = value_worth w s ∙ h.worth (value_of_monomial w) (value_ignores w) ∙ sym (value_worth w (raw_product p q)) ∙ value-product w p q

pub negation_value : (w : Valuation) (p : Polynomial) → value_of w (raw_negation p) ≡ neg_ℤ (value_of w p)
negation_value w p = value_worth w (raw_negation p) ∙ worth-negation (value_of_monomial w) p ∙ ap neg_ℤ (sym (value_worth w p))

pub negation_size : (p : Polynomial) → size_of (raw_negation p) ≡ size_of p
negation_size Zero = refl
negation_size (Plus m c p) = omega (arith, negation_size p)

pub negation_weight : (p : Polynomial) → weight_of (raw_negation p) ≡ weight_of p
negation_weight Zero = refl
negation_weight (Plus m c p) = omega (arith, negation_weight p, unsigned_abs-neg c)

negation_depth : (p : Polynomial) → depth_of (raw_negation p) ≡ depth_of p
negation_depth Zero = refl
negation_depth (Plus m c p) = omega (arith, negation_depth p)

negation_inside : (p : Polynomial) → narrow_inside (raw_negation p) ≡ narrow_inside p
negation_inside Zero = refl
negation_inside (Plus m c p) = ap (λ b. narrow_monomial m && b) (negation_inside p)

negated_zero : (c : ℤ) → neg_ℤ c ≡ pos 0 → c ≡ pos 0
negated_zero c e = omega (arith, ints)

negation_ordered : (p : Polynomial) → ordered (raw_negation p) ≡ ordered p
negation_ordered Zero = refl
negation_ordered (Plus m c p) = cc (zero_again c, rises_again p, negation_ordered p)
  where
    zero_again : (c : ℤ) → int_eq (neg_ℤ c) (pos 0) ≡ int_eq c (pos 0)
    zero_again c = by_tests (int_eq (neg_ℤ c) (pos 0)) (int_eq c (pos 0)) refl refl
      where
        by_tests : (a b : Bool) → int_eq (neg_ℤ c) (pos 0) ≡ a → int_eq c (pos 0) ≡ b → a ≡ b
        by_tests true true e f = refl
        by_tests true false e f =
            let z : c ≡ pos 0 = negated_zero c ((signed_Decides (neg_ℤ c) (pos 0)).0 e) in
            sym ((signed_Decides c (pos 0)).1 z) ∙ f
        by_tests false true e f =
            let z : neg_ℤ c ≡ pos 0 = ap neg_ℤ ((signed_Decides c (pos 0)).0 f) in
            sym e ∙ (signed_Decides (neg_ℤ c) (pos 0)).1 z
        by_tests false false e f = refl

    rises_again : (p : Polynomial) → monomial_rises m (raw_negation p) ≡ monomial_rises m p
    rises_again Zero = refl
    rises_again (Plus n d p) = refl

pub negation_normal : (p : Polynomial) → IsNormal p → IsNormal (raw_negation p)
negation_normal p n = record {
  ordered = negation_ordered p ∙ n.ordered;
  small = omega (arith, n.small, negation_size p);
  shallow = omega (arith, n.shallow, negation_depth p);
  narrow =
      (let a : weight_of (raw_negation p) ≡ weight_of p = negation_weight p in let b : narrow_inside (raw_negation p) ≡ narrow_inside p = negation_inside p in
      let c : is_light p && narrow_inside p ≡ true = n.narrow in cc);
}

pub negation_form : (p : Polynomial) → IsNormal p → IsNormalFormOf (raw_negation p) (raw_negation p)
negation_form p n = record { normal = negation_normal p n; same = record { totals = λ bag. refl } }

-- the same of equal polynomials
pub same_sum : (x y s p q t : Polynomial) → x ≡ p → y ≡ q → t ≡ s → IsOrderedSum x y s → IsOrderedSum p q t
same_sum x y s p q t e f g h = subst (λ a. IsOrderedSum a q t) e (subst (λ b. IsOrderedSum x b t) f (subst (λ c. IsOrderedSum x y c) (sym g) h))

pub same_product : (x y s p q t : Polynomial) → x ≡ p → y ≡ q → t ≡ s → IsOrderedProduct x y s → IsOrderedProduct p q t
same_product x y s p q t e f g h = subst (λ a. IsOrderedProduct a q t) e (subst (λ b. IsOrderedProduct x b t) f (subst (λ c. IsOrderedProduct x y c) (sym g) h))

-- the merge of p and the negation of q is the form of their difference
pub difference_form : (x y s p q : Polynomial) {t : Polynomial} → IsNormal p → IsNormal q → x ≡ p → y ≡ raw_negation q → t ≡ s → IsOrderedSum x y s
    → weight_of p + weight_of q ≤ weight_limit → size_of p + size_of q ≤ size_limit → IsNormalFormOf t (raw_difference p q)
difference_form x y s p q {t} m n e f g h w k =
    sum_form p (raw_negation q) t m (negation_normal q n) (same_sum x y s p (raw_negation q) t e f g h) (omega (arith, w, negation_weight q))
    (omega (arith, k, negation_size q))
