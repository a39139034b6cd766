-- Atoms put in order.
use Rattle.std.proofs.Common.{◌≡◌, ℤ, Bool, true, false, ◌&&◌, cond, refl, ap, sym, ◌∙◌}
use Rattle.std.specs.declared.cmp.Ordering.TheVariants.{Less}
use Rattle.std.specs.Ordering.{is_le, ordering_reverse}
use Rattle.std.proofs.lemmas.Bool.{and_from}
use Rattle.nf_terms.proofs.Booleans.{and_first, and_second, by_test}
use Rattle.nf_terms.proofs.Orderings.{is_le-false}
use Rattle.nf_trees.specs.NormalTerms.{Atom, Monomial, One, Times}
use Rattle.nf_trees.specs.Order.{cmp_atom}
use Rattle.nf_terms.specs.Normal.{ordered_atom, ordered_monomial, atom_rises}
use Rattle.nf_terms.specs.RawSums.{monomial_product}
use Rattle.nf_trees.specs.Comparison.{atoms_total}
use Rattle.nf_sums.specs.OrderedSums.{IgnoresOrder}
use Rattle.nf_sums.specs.RawSumForms.{with_atom, sorted_monomial}

pub joined_deep : (k m n : Monomial) → monomial_product (monomial_product k m) n ≡ monomial_product k (monomial_product m n)
joined_deep One m n = refl
joined_deep (Times a k) m n = ap (Times a) (joined_deep k m n)

module _ (f : Monomial → ℤ) (h : IgnoresOrder f) where
  with_atom_same : (k : Monomial) (a : Atom) (m : Monomial) → f (monomial_product k (with_atom a m)) ≡ f (monomial_product k (Times a m))
  with_atom_same k a One = refl
  with_atom_same k a (Times b m) =
      by_test (λ n. f (monomial_product k n) ≡ f (monomial_product k (Times a (Times b m)))) (Times a (Times b m)) (Times b (with_atom a m))
      (is_le (cmp_atom a b)) (λ e. refl)
      (λ e. ap f (sym (joined_deep k (Times b One) (with_atom a m))) ∙ with_atom_same (monomial_product k (Times b One)) a m
      ∙ ap f (joined_deep k (Times b One) (Times a m)) ∙ h.swapped k b a m)

  sorted_same : (k m : Monomial) → f (monomial_product k (sorted_monomial m)) ≡ f (monomial_product k m)
  sorted_same k One = refl
  sorted_same k (Times a m) =
      with_atom_same k a (sorted_monomial m) ∙ ap f (sym (joined_deep k (Times a One) (sorted_monomial m))) ∙ sorted_same (monomial_product k (Times a One)) m
      ∙ ap f (joined_deep k (Times a One) m)

  -- what ignores the order of atoms does not see that they are put in order
  pub sorting_ignored : (m : Monomial) → f (sorted_monomial m) ≡ f m
  sorting_ignored m = sorted_same One m

pub atom_before : (a b : Atom) → is_le (cmp_atom a b) ≡ false → cmp_atom b a ≡ Less
atom_before a b e = atoms_total.antisymm b a ∙ ap ordering_reverse (is_le-false (cmp_atom a b) e)

module _ (a : Atom) (m : Monomial) (o : ordered_monomial (Times a m) ≡ true) where
  first_ordered : ordered_atom a ≡ true
  first_ordered = and_first (ordered_atom a) (atom_rises a m) (and_first (ordered_atom a && atom_rises a m) (ordered_monomial m) o)

  first_rises : atom_rises a m ≡ true
  first_rises = and_second (ordered_atom a) (atom_rises a m) (and_first (ordered_atom a && atom_rises a m) (ordered_monomial m) o)

  rest_ordered : ordered_monomial m ≡ true
  rest_ordered = and_second (ordered_atom a && atom_rises a m) (ordered_monomial m) o

ordered_times : (a : Atom) (m : Monomial) → ordered_atom a ≡ true → atom_rises a m ≡ true → ordered_monomial m ≡ true → ordered_monomial (Times a m) ≡ true
ordered_times a m p q r = and_from (ordered_atom a && atom_rises a m) (ordered_monomial m) (and_from (ordered_atom a) (atom_rises a m) p q) r

pub rises_with_atom : (b a : Atom) (m : Monomial) → cmp_atom b a ≡ Less → atom_rises b m ≡ true → atom_rises b (with_atom a m) ≡ true
rises_with_atom b a One e r = ap is_le e
rises_with_atom b a (Times c m) e r = by_test (λ n. atom_rises b n ≡ true) (Times a (Times c m)) (Times c (with_atom a m)) (is_le (cmp_atom a c))
    (λ t. ap is_le e) (λ t. r)

with_atom_ordered : (a : Atom) (m : Monomial) → ordered_atom a ≡ true → ordered_monomial m ≡ true → ordered_monomial (with_atom a m) ≡ true
with_atom_ordered a One p o = ordered_times a One p refl refl
with_atom_ordered a (Times b m) p o =
    by_test (λ n. ordered_monomial n ≡ true) (Times a (Times b m)) (Times b (with_atom a m)) (is_le (cmp_atom a b)) (λ t. ordered_times a (Times b m) p t o)
    (λ t. ordered_times b (with_atom a m) (first_ordered b m o) (rises_with_atom b a m (atom_before a b t) (first_rises b m o))
    (with_atom_ordered a m p (rest_ordered b m o)))

-- whether each atom is in order in itself
abbrev pub atoms_ordered : Monomial → Bool
atoms_ordered One = true
atoms_ordered (Times a m) = ordered_atom a && atoms_ordered m

pub atoms_of_ordered : (m : Monomial) → ordered_monomial m ≡ true → atoms_ordered m ≡ true
atoms_of_ordered One o = refl
atoms_of_ordered (Times a m) o = and_from (ordered_atom a) (atoms_ordered m) (first_ordered a m o) (atoms_of_ordered m (rest_ordered a m o))

pub atoms_of_joined : (m n : Monomial) → atoms_ordered m ≡ true → atoms_ordered n ≡ true → atoms_ordered (monomial_product m n) ≡ true
atoms_of_joined One n p q = q
atoms_of_joined (Times a m) n p q =
    and_from (ordered_atom a) (atoms_ordered (monomial_product m n)) (and_first (ordered_atom a) (atoms_ordered m) p)
    (atoms_of_joined m n (and_second (ordered_atom a) (atoms_ordered m) p) q)

-- atoms that are put in order are in order
pub sorted_ordered : (m : Monomial) → atoms_ordered m ≡ true → ordered_monomial (sorted_monomial m) ≡ true
sorted_ordered One o = refl
sorted_ordered (Times a m) o = with_atom_ordered a (sorted_monomial m) (and_first (ordered_atom a) (atoms_ordered m) o)
    (sorted_ordered m (and_second (ordered_atom a) (atoms_ordered m) o))

with_first : (a : Atom) (m : Monomial) → atom_rises a m ≡ true → with_atom a m ≡ Times a m
with_first a One r = refl
with_first a (Times b m) r = ap (λ t. cond t (Times a (Times b m)) (Times b (with_atom a m))) r

-- atoms in order stay as they are
pub sorted_stays : (m : Monomial) → ordered_monomial m ≡ true → sorted_monomial m ≡ m
sorted_stays One o = refl
sorted_stays (Times a m) o = ap (with_atom a) (sorted_stays m (rest_ordered a m o)) ∙ with_first a m (first_rises a m o)
