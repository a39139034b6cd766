-- The part with atoms and the constant of a sum that rises and is minus another and minus 1.
use Rattle.std.proofs.Common.{◌≡◌, ℤ, pos, ◌-ℤ◌, neg_ℤ, true, arith, refl, ◌∙◌}
use Rattle.std.proofs.lemmas.Int.{ints}
use Rattle.fs_model.proofs.Orderings.{is_lt-true}
use Rattle.nf_trees.specs.NormalTerms.{Atom, Monomial, Polynomial, One, Times, Zero, Plus}
use Rattle.nf_trees.specs.Order.{cmp_monomial}
use Rattle.nf_terms.specs.Normal.{part_with_atoms, constant_sum, monomial_rises}
use Rattle.nf_terms.specs.RawSums.{monomial_product, raw_negation, raw_difference}
use Rattle.nf_sums.proofs.Partings.{rises_through}
use Rattle.nf_sums.specs.OrderedSums.{worth_of, IgnoresOrder}
use Rattle.nf_sums.specs.RawSumForms.{normal_form}
use Rattle.nf_sums.proofs.Collecting.{worth-form}
use Rattle.nf_sums.proofs.Worth.{worth-negation, worth-difference}
use Rattle.nf_rel.specs.Literals.{one}
use Rattle.alike_searches.specs.Risen.{is_risen}
use Rattle.alike_searches.proofs.RisenForms.{risen_term, term_risen, form_risen, negation_risen, settled_by_worth}

-- ---- worth of the two parts

abbrev no_constant : (Monomial → ℤ) → Monomial → ℤ
no_constant f One = pos 0
no_constant f (Times a m) = f (Times a m)

abbrev only_constant : Monomial → ℤ
only_constant One = pos 1
only_constant (Times a m) = pos 0

part_worth : (f : Monomial → ℤ) (p : Polynomial) → worth_of f (part_with_atoms p) ≡ worth_of (no_constant f) p
part_worth f Zero = refl
part_worth f (Plus One c p) = omega (arith, ints, part_worth f p)
part_worth f (Plus (Times a m) c p) = omega (arith, ints, part_worth f p)

constant_worth : (p : Polynomial) → constant_sum p ≡ worth_of only_constant p
constant_worth Zero = refl
constant_worth (Plus One c p) = omega (arith, ints, constant_worth p)
constant_worth (Plus (Times a m) c p) = omega (arith, ints, constant_worth p)

part_ignores : (f : Monomial → ℤ) → IgnoresOrder f → IgnoresOrder (no_constant f)
part_ignores f h = record { swapped = by_first }
  where
    by_first : (k : Monomial) (a b : Atom) (m : Monomial)
        → no_constant f (monomial_product k (Times a (Times b m))) ≡ no_constant f (monomial_product k (Times b (Times a m)))
    by_first One a b m = h.swapped One a b m
    by_first (Times c k) a b m = h.swapped (Times c k) a b m

constant_ignores : IgnoresOrder only_constant
constant_ignores = record { swapped = by_first }
  where
    by_first : (k : Monomial) (a b : Atom) (m : Monomial)
        → only_constant (monomial_product k (Times a (Times b m))) ≡ only_constant (monomial_product k (Times b (Times a m)))
    by_first One a b m = refl
    by_first (Times c k) a b m = refl

-- ---- the part with atoms rises

part_rises : (m : Monomial) (p : Polynomial) → monomial_rises m p ≡ true → is_risen p ≡ true → monomial_rises m (part_with_atoms p) ≡ true
part_rises m Zero r o = refl
part_rises m (Plus One c p) r o =
    let t = risen_term One c p o in
    part_rises m p (rises_through m One p (is_lt-true (cmp_monomial m One) r) t.rises) t.rest
part_rises m (Plus (Times a k) c p) r o = r

pub part_risen : (p : Polynomial) → is_risen p ≡ true → is_risen (part_with_atoms p) ≡ true
part_risen Zero o = refl
part_risen (Plus One c p) o = part_risen p (risen_term One c p o).rest
part_risen (Plus (Times a m) c p) o =
    let t = risen_term (Times a m) c p o in
    term_risen (Times a m) c (part_with_atoms p)
    (record { nonzero = t.nonzero; first = t.first; rises = part_rises (Times a m) p t.rises t.rest; rest = part_risen p t.rest })

-- ---- minus a sum and minus 1

abbrev pub less_one : Polynomial → Polynomial
less_one e = normal_form (raw_difference (raw_negation e) one)

worth_less : (e : Polynomial) (f : Monomial → ℤ) → IgnoresOrder f → worth_of f (less_one e) ≡ neg_ℤ (worth_of f e) -ℤ f One
worth_less e f h = worth-form f h (raw_difference (raw_negation e) one) ∙ omega (arith, ints, worth-difference f (raw_negation e) one, worth-negation f e)

pub part_of_less : (e : Polynomial) → is_risen e ≡ true → part_with_atoms (less_one e) ≡ raw_negation (part_with_atoms e)
part_of_less e o =
    settled_by_worth (part_with_atoms (less_one e)) (raw_negation (part_with_atoms e))
    (part_risen (less_one e) (form_risen (raw_difference (raw_negation e) one))) (negation_risen (part_with_atoms e) (part_risen e o))
    (λ f h. omega (
      arith,
      ints,
      part_worth f (less_one e),
      worth_less e (no_constant f) (part_ignores f h),
      worth-negation f (part_with_atoms e),
      part_worth f e,
    ))

pub constant_of_less : (e : Polynomial) → constant_sum (less_one e) ≡ neg_ℤ (constant_sum e) -ℤ pos 1
constant_of_less e = omega (arith, ints, constant_worth (less_one e), worth_less e only_constant constant_ignores, constant_worth e)
