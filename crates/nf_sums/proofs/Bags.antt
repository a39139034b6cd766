-- What ignores the order of the atoms.
use Rattle.std.proofs.Common.{◌≡◌, ◌+◌, ◌==◌, ℤ, pos, ◌*ℤ◌, Bool, true, false, ◌&&◌, cond, arith, refl, ap, sym, ◌∙◌}
use Rattle.nf_trees.specs.NormalTerms.{Atom, Monomial, One, Times}
use Rattle.nf_trees.specs.Measures.{size_of_monomial}
use Rattle.nf_terms.specs.TermMeaning.{Valuation, value_of_atom, value_of_monomial}
use Rattle.nf_terms.specs.RawSums.{monomial_product, occurrences, as_often, same_bag}
use Rattle.nf_sums.specs.OrderedSums.{IgnoresOrder, fits_atom, fits_monomial}
use Rattle.nf_sums.proofs.Worth.{one_for, value-joined}
use Rattle.nf_terms.proofs.Ring.{mul_assoc_z}
use lib.IntN.{*ℤ_comm}

and_swap : (a b c : Bool) → a && (b && c) ≡ b && (a && c)
and_swap true b c = refl
and_swap false true c = refl
and_swap false false c = refl

and_deep : (a b c : Bool) → a && b && c ≡ a && (b && c)
and_deep true b c = refl
and_deep false b c = refl

occurrences-joined : (a : Atom) (m n : Monomial) → occurrences a (monomial_product m n) ≡ occurrences a m + occurrences a n
occurrences-joined a One n = omega arith
occurrences-joined a (Times b m) n = omega (arith, occurrences-joined a m n)

often-joined : (j k m n : Monomial) → as_often (monomial_product j k) m n ≡ as_often j m n && as_often k m n
often-joined One k m n = refl
often-joined (Times a j) k m n = ap (λ b. (occurrences a m == occurrences a n) && b) (often-joined j k m n)
    ∙ sym (and_deep (occurrences a m == occurrences a n) (as_often j m n) (as_often k m n))

-- only the occurrences count
often_same : (k m n o : Monomial) → ((a : Atom) → occurrences a n ≡ occurrences a o) → as_often k m n ≡ as_often k m o
often_same One m n o e = refl
often_same (Times a k) m n o e = cc (e a, often_same k m n o e)

module _ (bag k : Monomial) (a b : Atom) (m : Monomial) where
  swapped_occurrences : (c : Atom) → occurrences c (monomial_product k (Times a (Times b m))) ≡ occurrences c (monomial_product k (Times b (Times a m)))
  swapped_occurrences c = omega (arith, occurrences-joined c k (Times a (Times b m)), occurrences-joined c k (Times b (Times a m)))

  pub swapped_bag : same_bag bag (monomial_product k (Times a (Times b m))) ≡ same_bag bag (monomial_product k (Times b (Times a m)))
  swapped_bag =
      let x = monomial_product k (Times a (Times b m)) in
      let y = monomial_product k (Times b (Times a m)) in
      let e : as_often bag bag x ≡ as_often bag bag y = often_same bag bag x y swapped_occurrences in
      let f : as_often x bag x ≡ as_often x bag y = often_same x bag x y swapped_occurrences in
      let g : as_often x bag y ≡ as_often y bag y =
      often-joined k (Times a (Times b m)) bag y
      ∙ ap (λ t. as_often k bag y && t) (and_swap (occurrences a bag == occurrences a y) (occurrences b bag == occurrences b y) (as_often m bag y))
      ∙ sym (often-joined k (Times b (Times a m)) bag y) in
      cc

pub bag_ignores : (bag : Monomial) → IgnoresOrder (one_for bag)
bag_ignores bag = record { swapped = λ k a b m. ap (λ t. cond t (pos 1) (pos 0)) (swapped_bag bag k a b m) }

pub value_ignores : (w : Valuation) → IgnoresOrder (value_of_monomial w)
value_ignores w = record {
  swapped = λ k a b m. value-joined w k (Times a (Times b m))
      ∙ ap (λ z. value_of_monomial w k *ℤ z) (swap (value_of_atom w a) (value_of_atom w b) (value_of_monomial w m))
      ∙ sym (value-joined w k (Times b (Times a m)));
}
  where
    swap : (a b c : ℤ) → a *ℤ (b *ℤ c) ≡ b *ℤ (a *ℤ c)
    swap a b c = sym (mul_assoc_z a b c) ∙ ap (λ z. z *ℤ c) (*ℤ_comm a b) ∙ mul_assoc_z b a c

pub size-joined : (m n : Monomial) → size_of_monomial (monomial_product m n) ≡ size_of_monomial m + size_of_monomial n
size-joined One n = omega arith
size-joined (Times a m) n = omega (arith, size-joined m n)

abbrev pub size_worth : Monomial → ℤ
size_worth m = pos (size_of_monomial m)

pub size_ignores : IgnoresOrder size_worth
size_ignores = record { swapped = λ k a b m. ap pos (swapped_size k a b m) }
  where
    swapped_size : (k : Monomial) (a b : Atom) (m : Monomial)
        → size_of_monomial (monomial_product k (Times a (Times b m))) ≡ size_of_monomial (monomial_product k (Times b (Times a m)))
    swapped_size k a b m = omega (arith, size-joined k (Times a (Times b m)), size-joined k (Times b (Times a m)))

pub fits-joined : (m n : Monomial) → fits_monomial (monomial_product m n) ≡ fits_monomial m && fits_monomial n
fits-joined One n = refl
fits-joined (Times a m) n = ap (λ b. fits_atom a && b) (fits-joined m n) ∙ sym (and_deep (fits_atom a) (fits_monomial m) (fits_monomial n))

abbrev pub fits_worth : Monomial → ℤ
fits_worth m = cond (fits_monomial m) (pos 1) (pos 0)

pub fits_ignores : IgnoresOrder fits_worth
fits_ignores = record {
  swapped = λ k a b m. ap (λ t. cond t (pos 1) (pos 0))
      (fits-joined k (Times a (Times b m)) ∙ ap (λ t. fits_monomial k && t) (and_swap (fits_atom a) (fits_atom b) (fits_monomial m))
      ∙ sym (fits-joined k (Times b (Times a m))));
}

pub fits_again : (m n : Monomial) → fits_worth m ≡ fits_worth n → fits_monomial n ≡ true → fits_monomial m ≡ true
fits_again m n e h = told (fits_monomial m) (e ∙ ap (λ t. cond t (pos 1) (pos 0)) h)
  where
    told : (b : Bool) → cond b (pos 1) (pos 0) ≡ pos 1 → b ≡ true
    told true e = refl
    told false e = cc
