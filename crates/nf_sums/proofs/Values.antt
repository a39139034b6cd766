-- What is computed has the value that it should have.
use Rattle.std.proofs.Common.{◌≡◌, ℕ, ◌+◌, ◌*◌, ◌≤◌, ℤ, ◌+ℤ◌, ◌-ℤ◌, ◌*ℤ◌, Bool, true, false, cond, nat_le, arith, refl, ap, sym, ◌∙◌}
use Rattle.std.proofs.lemmas.Int.{ints}
use Rattle.std.proofs.lemmas.Bool.{leb-true}
use Rattle.nf_trees.specs.NormalTerms.{Polynomial, One, Times, Zero, Plus}
use Rattle.nf_trees.specs.Measures.{size_of, weight_of, depth_of}
use Rattle.nf_terms.specs.TermMeaning.{Valuation, value_of, value_of_monomial}
use Rattle.nf_terms.specs.Normal.{part_with_atoms}
use Rattle.nf_terms.specs.TermLimits.{size_limit, depth_limit, weight_limit}
use Rattle.nf_terms.specs.RawSums.{raw_sum, raw_negation, raw_difference, raw_product}
use Rattle.nf_sums.proofs.Bags.{value_ignores}
use Rattle.nf_sums.proofs.Worth.{value_worth, value-product}
use Rattle.nf_sums.proofs.Forms.{negation_value}
use Rattle.nf_terms.specs.Computed.{Computed, Done, Wide, Large, after, IfDone, if_small}
use Rattle.nf_sums.specs.RawSumForms.{normal_form}
use Rattle.nf_sums.specs.Operations.{operation, normal_sum, normal_difference, normal_product}
use Rattle.nf_terms.specs.Normal.{constant_sum}
use Rattle.nf_sums.proofs.Partings.{value-sum}
use Rattle.nf_sums.proofs.Collecting.{worth-form}

-- a normal form has the value of the raw sum
pub value_form : (w : Valuation) (p : Polynomial) → value_of w (normal_form p) ≡ value_of w p
value_form w p = value_worth w (normal_form p) ∙ worth-form (value_of_monomial w) (value_ignores w) p ∙ sym (value_worth w p)

-- what a composition computes went through its first part
pub record Goes {S T : Type 0} (o : Computed S) (f : S → Computed T) (y : T) : Type 0 where
  pub middle : S
  pub first : o ≡ Done middle
  pub next : f middle ≡ Done y

pub goes_done : {S T : Type 0} (o : Computed S) (f : S → Computed T) (y : T) → after o f ≡ Done y → Goes o f y
goes_done (Done x) f y e = record { middle = x; first = refl; next = e }
goes_done (Wide l r) f y e = absurd (cc e)
goes_done (Large u d) f y e = absurd (cc e)

pub small_is : {T : Type 0} (units depth : ℕ) (x y : T) → if_small units depth x ≡ Done y → x ≡ y
small_is {T} units depth x y e = by_tests (nat_le units size_limit) (nat_le depth depth_limit) e
  where
    by_tests : (a b : Bool) → cond {A = Computed T} a (cond {A = Computed T} b (Done x) (Large units depth)) (Large units 0) ≡ Done y → x ≡ y
    by_tests true true h = cc h
    by_tests true false h = absurd (cc h)
    by_tests false b h = absurd (cc h)

pub operation_is : (p q : Polynomial) (weight units : ℕ) (raw x : Polynomial) → operation p q weight units raw ≡ Done x → normal_form raw ≡ x
operation_is p q weight units raw x e = by_test (nat_le weight weight_limit) e
  where
    by_test :
        (a : Bool) → cond {A = Computed Polynomial} a (if_small units (depth_of (normal_form raw)) (normal_form raw)) (Wide (weight_of p) (weight_of q))
        ≡ Done x → normal_form raw ≡ x
    by_test true h = small_is units (depth_of (normal_form raw)) (normal_form raw) x h
    by_test false h = absurd (cc h)

module _ (w : Valuation) (p q r : Polynomial) where
  pub added_value : normal_sum p q ≡ Done r → value_of w r ≡ value_of w p +ℤ value_of w q
  added_value e =
      sym (ap (value_of w) (operation_is p q (weight_of p + weight_of q) (size_of p + size_of q) (raw_sum p q) r e)) ∙ value_form w (raw_sum p q)
      ∙ value-sum w p q

  pub subtracted_value : normal_difference p q ≡ Done r → value_of w r ≡ value_of w p -ℤ value_of w q
  subtracted_value e =
      let f = sym (ap (value_of w) (operation_is p q (weight_of p + weight_of q) (size_of p + size_of q) (raw_difference p q) r e))
      ∙ value_form w (raw_difference p q) ∙ value-sum w p (raw_negation q) in
      omega (arith, ints, f, negation_value w q)

  pub multiplied_value : normal_product p q ≡ Done r → value_of w r ≡ value_of w p *ℤ value_of w q
  multiplied_value e =
      sym (ap (value_of w) (operation_is p q (weight_of p * weight_of q) (size_of p * size_of q) (raw_product p q) r e)) ∙ value_form w (raw_product p q)
      ∙ value-product w p q

-- a polynomial has the value of its monomials with atoms and its constants
pub value_parts : (w : Valuation) (p : Polynomial) → value_of w p ≡ value_of w (part_with_atoms p) +ℤ constant_sum p
value_parts w Zero = refl
value_parts w (Plus One c p) = omega (arith, ints, value_parts w p)
value_parts w (Plus (Times a m) c p) = omega (arith, ints, value_parts w p)

pub if_small_holds : {T : Type 0} (units depth : ℕ) (x : T) (P : T → Type 0) → ((units ≤ size_limit) → (depth ≤ depth_limit) → P x)
    → IfDone (if_small units depth x) P
if_small_holds {T} units depth x P f = by_tests (nat_le units size_limit) (nat_le depth depth_limit) refl refl
  where
    by_tests : (a b : Bool) → nat_le units size_limit ≡ a → nat_le depth depth_limit ≡ b
        → IfDone (cond {A = Computed T} a (cond {A = Computed T} b (Done x) (Large units depth)) (Large units 0)) P
    by_tests true true g h = f (leb-true units size_limit g) (leb-true depth depth_limit h)
    by_tests true false g h = tt
    by_tests false b g h = tt
