-- Normal forms rise, whatever is in them, and two sums that rise and are worth the same are equal.
use Rattle.std.proofs.Common.{◌≡◌, ℤ, pos, ◌+ℤ◌, neg_ℤ, Bool, true, false, ◌&&◌, not, arith, refl, ap, ap₂, sym, ◌∙◌}
use Rattle.std.proofs.lemmas.Int.{ints}
use Rattle.std.specs.Ordering.{int_eq, is_le, is_lt}
use Rattle.std.specs.Cmp.{signed_Decides}
use Rattle.std.proofs.lemmas.Bool.{and_from}
use Rattle.fs_model.proofs.Booleans.{and_first, and_second, by_test}
use Rattle.nf_trees.specs.NormalTerms.{Atom, Monomial, Polynomial, One, Times, Zero, Plus, polynomial_of_number}
use Rattle.nf_trees.specs.Order.{cmp_atom, cmp_monomial}
use Rattle.nf_terms.specs.Normal.{atom_rises, monomial_rises}
use Rattle.nf_terms.specs.RawSums.{raw_negation}
use Rattle.nf_sums.specs.OrderedSums.{worth_of, IgnoresOrder}
use Rattle.nf_sums.specs.RawSumForms.{with_atom, sorted_monomial, plus, with_term, normal_form}
use Rattle.nf_sums.proofs.Sorting.{atom_before, rises_with_atom}
use Rattle.nf_sums.proofs.Collecting.{by_cases, turned, FirstRises, rises_with}
use Rattle.nf_sums.proofs.Bags.{bag_ignores}
use Rattle.nf_sums.proofs.Worth.{one_for, total_worth}
use Rattle.nf_sums.proofs.Unique.{risen_monomial, risen, unique}
use Rattle.alike_searches.specs.Risen.{atoms_rise, is_risen}

-- ---- a sum that rises, taken apart

pub record IsRisenTerm (m : Monomial) (c : ℤ) (p : Polynomial) : Type 0 where
  pub nonzero : not (int_eq c (pos 0)) ≡ true
  pub first : atoms_rise m ≡ true
  pub rises : monomial_rises m p ≡ true
  pub rest : is_risen p ≡ true

pub risen_term : (m : Monomial) (c : ℤ) (p : Polynomial) → is_risen (Plus m c p) ≡ true → IsRisenTerm m c p
risen_term m c p o =
    let z = not (int_eq c (pos 0)) in
    let a : z && atoms_rise m && monomial_rises m p ≡ true = and_first (z && atoms_rise m && monomial_rises m p) (is_risen p) o in
    let b : z && atoms_rise m ≡ true = and_first (z && atoms_rise m) (monomial_rises m p) a in
    record {
      nonzero = and_first z (atoms_rise m) b;
      first = and_second z (atoms_rise m) b;
      rises = and_second (z && atoms_rise m) (monomial_rises m p) a;
      rest = and_second (z && atoms_rise m && monomial_rises m p) (is_risen p) o;
    }

pub term_risen : (m : Monomial) (c : ℤ) (p : Polynomial) → IsRisenTerm m c p → is_risen (Plus m c p) ≡ true
term_risen m c p t =
    and_from (not (int_eq c (pos 0)) && atoms_rise m && monomial_rises m p) (is_risen p)
    (and_from (not (int_eq c (pos 0)) && atoms_rise m) (monomial_rises m p) (and_from (not (int_eq c (pos 0))) (atoms_rise m) t.nonzero t.first) t.rises) t.rest

-- ---- normal forms rise

with_atom_risen : (a : Atom) (m : Monomial) → atoms_rise m ≡ true → atoms_rise (with_atom a m) ≡ true
with_atom_risen a One o = refl
with_atom_risen a (Times b m) o =
    by_test (λ n. atoms_rise n ≡ true) (Times a (Times b m)) (Times b (with_atom a m)) (is_le (cmp_atom a b))
    (λ t. and_from (atom_rises a (Times b m)) (atoms_rise (Times b m)) t o)
    (λ t. and_from (atom_rises b (with_atom a m)) (atoms_rise (with_atom a m))
    (rises_with_atom b a m (atom_before a b t) (and_first (atom_rises b m) (atoms_rise m) o))
    (with_atom_risen a m (and_second (atom_rises b m) (atoms_rise m) o)))

sorted_risen : (m : Monomial) → atoms_rise (sorted_monomial m) ≡ true
sorted_risen One = refl
sorted_risen (Times a m) = with_atom_risen a (sorted_monomial m) (sorted_risen m)

plus_risen : (m : Monomial) (c : ℤ) (p : Polynomial) → atoms_rise m ≡ true → monomial_rises m p ≡ true → is_risen p ≡ true → is_risen (plus m c p) ≡ true
plus_risen m c p o r q = by_test (λ t. is_risen t ≡ true) p (Plus m c p) (int_eq c (pos 0)) (λ e. q)
    (λ e. term_risen m c p (record { nonzero = ap not e; first = o; rises = r; rest = q }))

first_of : (p : Polynomial) → is_risen p ≡ true → FirstRises p
first_of Zero o = tt
first_of (Plus m c p) o = (risen_term m c p o).rises

with_term_risen : (m : Monomial) (c : ℤ) (p : Polynomial) → atoms_rise m ≡ true → is_risen p ≡ true → is_risen (with_term m c p) ≡ true
with_term_risen m c Zero o q = plus_risen m c Zero o refl refl
with_term_risen m c (Plus n d p) o q =
    let t = risen_term n d p q in
    by_cases (λ t. is_risen t ≡ true) (plus m c (Plus n d p)) (plus n (c +ℤ d) p) (Plus n d (with_term m c p)) (cmp_monomial m n)
    (λ e. plus_risen m c (Plus n d p) o (ap is_lt e) q) (λ e. plus_risen n (c +ℤ d) p t.first t.rises t.rest)
    (λ e. term_risen n d (with_term m c p)
    (record {
      nonzero = t.nonzero;
      first = t.first;
      rises = rises_with n m c p (turned m n e) (first_of p t.rest) t.rises;
      rest = with_term_risen m c p o t.rest;
    }))

pub form_risen : (p : Polynomial) → is_risen (normal_form p) ≡ true
form_risen Zero = refl
form_risen (Plus m c p) = with_term_risen (sorted_monomial m) c (normal_form p) (sorted_risen m) (form_risen p)

pub number_risen : (c : ℤ) → is_risen (polynomial_of_number c) ≡ true
number_risen c = plus_risen One c Zero refl refl refl

pub negation_risen : (p : Polynomial) → is_risen p ≡ true → is_risen (raw_negation p) ≡ true
negation_risen Zero o = refl
negation_risen (Plus m c p) o =
    let t = risen_term m c p o in
    term_risen m (neg_ℤ c) (raw_negation p)
    (record { nonzero = turned_nonzero c t.nonzero; first = t.first; rises = still_rises m p t.rises; rest = negation_risen p t.rest })
  where
    still_rises : (m : Monomial) (p : Polynomial) → monomial_rises m p ≡ true → monomial_rises m (raw_negation p) ≡ true
    still_rises m Zero r = refl
    still_rises m (Plus n d p) r = r

    turned_nonzero : (c : ℤ) → not (int_eq c (pos 0)) ≡ true → not (int_eq (neg_ℤ c) (pos 0)) ≡ true
    turned_nonzero c h = by_zero (int_eq (neg_ℤ c) (pos 0)) refl
      where
        by_zero : (b : Bool) → int_eq (neg_ℤ c) (pos 0) ≡ b → not b ≡ true
        by_zero true e =
            let z : neg_ℤ c ≡ pos 0 = (signed_Decides (neg_ℤ c) (pos 0)).0 e in
            let y : int_eq c (pos 0) ≡ true = (signed_Decides c (pos 0)).1 (omega (arith, ints)) in
            sym (ap not y) ∙ h
        by_zero false e = refl

-- ---- two sums that rise and are worth the same are equal

same_risen_monomial : (m : Monomial) → risen_monomial m ≡ atoms_rise m
same_risen_monomial One = refl
same_risen_monomial (Times a m) = ap (λ b. atom_rises a m && b) (same_risen_monomial m)

same_risen : (p : Polynomial) → risen p ≡ is_risen p
same_risen Zero = refl
same_risen (Plus m c p) = ap₂ (λ a b. not (int_eq c (pos 0)) && a && monomial_rises m p && b) (same_risen_monomial m) (same_risen p)

pub settled_by_worth : (p q : Polynomial) → is_risen p ≡ true → is_risen q ≡ true → ((f : Monomial → ℤ) → IgnoresOrder f → worth_of f p ≡ worth_of f q) → p ≡ q
settled_by_worth p q o r h = unique p q (same_risen p ∙ o) (same_risen q ∙ r)
    (record { totals = λ bag. total_worth bag p ∙ h (one_for bag) (bag_ignores bag) ∙ sym (total_worth bag q) })
