-- What is added to a table of bounds.
use Rattle.std.proofs.Common.{◌≡◌, ℤ, Bool, true, false, ◌&&◌, ◌||◌, cond, Option, None, Some, arith, refl, ap, sym, ◌∙◌}
use Rattle.std.specs.Prelude.{int_lt}
use Rattle.std.specs.declared.cmp.Ordering.{Ordering}
use Rattle.std.specs.declared.cmp.Ordering.TheVariants.{Less, Equal, Greater}
use Rattle.std.specs.Ordering.{int_cmp, int_eq, ordering_then, is_eq}
use Rattle.std.specs.Borrow.{Bor}
use Rattle.std.specs.BTreeMap.{BTreeMap}
use Rattle.std.specs.BTreeSet.{BTreeSet}
use Rattle.std.proofs.lemmas.Int.{ints}
use Rattle.nf_rel.proofs.Constants.{equal_of_same}
use Rattle.nf_terms.specs.NormalTerms.{Polynomial}
use Rattle.nf_terms.specs.Order.{cmp_polynomial, same_polynomial}
use Rattle.nf_terms.specs.Comparison.{polynomials_equal}
use Rattle.nf_rel.proofs.Floors.{lt_true, lt_false, is_lt, not_lt}
use Rattle.nf_refutation.specs.BoundTables.{bound_in, has_number, is_below, is_above, Tightens, AddsNumber}

-- ---- bounds

-- of two bounds the one that is beyond the other counts
pub record Compares (is_beyond : ℤ → Option ℤ → Bool) : Type 0 where
  pub needless : (a b : ℤ) (known : Option ℤ) → is_beyond b known ≡ true → is_beyond a known ≡ is_beyond a (Some b) || is_beyond a known
  pub better : (a b : ℤ) (known : Option ℤ) → is_beyond b known ≡ false → is_beyond a (Some b) ≡ is_beyond a (Some b) || is_beyond a known

or_nothing : (t : Bool) → t ≡ t || false
or_nothing true = refl
or_nothing false = refl

lower_needless : (a b : ℤ) (known : Option ℤ) → is_below b known ≡ true → is_below a known ≡ int_lt a b || is_below a known
lower_needless a b None e = absurd (cc e)
lower_needless a b (Some k) e = by_test (int_lt a b) refl
  where
    by_test : (t : Bool) → int_lt a b ≡ t → int_lt a k ≡ t || int_lt a k
    by_test true f = is_lt a k (let x = lt_true a b f in let y = lt_true b k e in omega (arith, ints))
    by_test false f = refl

lower_better : (a b : ℤ) (known : Option ℤ) → is_below b known ≡ false → int_lt a b ≡ int_lt a b || is_below a known
lower_better a b None e = or_nothing (int_lt a b)
lower_better a b (Some k) e = by_test (int_lt a b) refl
  where
    by_test : (t : Bool) → int_lt a b ≡ t → t ≡ t || int_lt a k
    by_test true f = refl
    by_test false f = sym (not_lt a k (let x = lt_false a b f in let y = lt_false b k e in omega (arith, ints)))

upper_needless : (a b : ℤ) (known : Option ℤ) → is_above b known ≡ true → is_above a known ≡ int_lt b a || is_above a known
upper_needless a b None e = absurd (cc e)
upper_needless a b (Some k) e = by_test (int_lt b a) refl
  where
    by_test : (t : Bool) → int_lt b a ≡ t → int_lt k a ≡ t || int_lt k a
    by_test true f = is_lt k a (let x = lt_true b a f in let y = lt_true k b e in omega (arith, ints))
    by_test false f = refl

upper_better : (a b : ℤ) (known : Option ℤ) → is_above b known ≡ false → int_lt b a ≡ int_lt b a || is_above a known
upper_better a b None e = or_nothing (int_lt b a)
upper_better a b (Some k) e = by_test (int_lt b a) refl
  where
    by_test : (t : Bool) → int_lt b a ≡ t → t ≡ t || int_lt k a
    by_test true f = refl
    by_test false f = sym (not_lt k a (let x = lt_false b a f in let y = lt_false k b e in omega (arith, ints)))

pub below_compares : Compares is_below
below_compares = record { needless = lower_needless; better = lower_better }

pub above_compares : Compares is_above
above_compares = record { needless = upper_needless; better = upper_better }

module _ (is_beyond : ℤ → Option ℤ → Bool) (compares : Compares is_beyond) (e : Polynomial) (b : ℤ) where
  -- a bound that another one is beyond changes nothing
  pub tightens_needless : (m : BTreeMap (Bor Polynomial) ℤ) → is_beyond b (bound_in m e) ≡ true → Tightens is_beyond m m e b
  tightens_needless m h = λ d a. by_test d a (same_polynomial d e) refl
    where
      by_test : (d : Polynomial) (a : ℤ) (t : Bool) → same_polynomial d e ≡ t
          → is_beyond a (bound_in m d) ≡ (t && is_beyond a (Some b)) || is_beyond a (bound_in m d)
      by_test d a true s = compares.needless a b (bound_in m d) (ap (λ p. is_beyond b (bound_in m p)) (equal_of_same d e s) ∙ h)
      by_test d a false s = refl

  -- any other bound takes the place of the known one
  pub tightens_better : (old new : BTreeMap (Bor Polynomial) ℤ) → is_beyond b (bound_in old e) ≡ false
      → ((d : Polynomial) → bound_in new d ≡ cond (same_polynomial e d) (Some b) (bound_in old d)) → Tightens is_beyond old new e b
  tightens_better old new h u = λ d a. by_test d a (same_polynomial d e) refl
    where
      put : (d : Polynomial) (t : Bool) → same_polynomial d e ≡ t → bound_in new d ≡ cond t (Some b) (bound_in old d)
      put d t s = u d ∙ ap (λ c. cond c (Some b) (bound_in old d)) (polynomials_equal.symm e d ∙ s)

      by_test : (d : Polynomial) (a : ℤ) (t : Bool) → same_polynomial d e ≡ t
          → is_beyond a (bound_in new d) ≡ (t && is_beyond a (Some b)) || is_beyond a (bound_in old d)
      by_test d a true s = ap (is_beyond a) (put d true s) ∙ compares.better a b (bound_in old d)
          (ap (λ p. is_beyond b (bound_in old p)) (equal_of_same d e s) ∙ h)
      by_test d a false s = ap (is_beyond a) (put d false s)

-- ---- sets of numbers

both_equal : (r s : Ordering) → is_eq (ordering_then r s) ≡ is_eq s && is_eq r
both_equal Less Less = refl
both_equal Less Equal = refl
both_equal Less Greater = refl
both_equal Equal Less = refl
both_equal Equal Equal = refl
both_equal Equal Greater = refl
both_equal Greater Less = refl
both_equal Greater Equal = refl
both_equal Greater Greater = refl

numbers_turned : (a b : ℤ) → int_eq b a ≡ int_eq a b
numbers_turned a b = by_tests (int_lt a b) (int_lt b a)
  where
    by_tests : (t u : Bool) → is_eq (cond u Less (cond t Greater Equal)) ≡ is_eq (cond t Less (cond u Greater Equal))
    by_tests true true = refl
    by_tests true false = refl
    by_tests false true = refl
    by_tests false false = refl

if_or : (t u : Bool) → cond t true u ≡ t || u
if_or true u = refl
if_or false u = refl

pub number_added : (old new : BTreeSet (ℤ × Bor Polynomial)) (e : Polynomial) (b : ℤ)
    → ((d : Polynomial) (a : ℤ) → has_number new d a ≡ cond (is_eq (ordering_then (int_cmp b a) (cmp_polynomial e d))) true (has_number old d a))
    → AddsNumber old new e b
number_added old new e b u = λ d a.
    u d a
    ∙ if_or (is_eq (ordering_then (int_cmp b a) (cmp_polynomial e d))) (has_number old d a)
    ∙ ap (λ t. t || has_number old d a) (both_equal (int_cmp b a) (cmp_polynomial e d) ∙ (λ i. polynomials_equal.symm e d i && numbers_turned a b i))
