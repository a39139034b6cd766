-- Which numbers meet all literals of a direction: where any does, one at a bound or next to it does, or 0.
use Rattle.std.proofs.Common.{◌≡◌, ℕ, zero, suc, ℤ, pos, negsuc, ◌+ℤ◌, ◌-ℤ◌, neg_ℤ, Bool, true, false, ◌⊎◌, inl, inr, arith, refl, ap, sym, ◌∙◌, List, [], ◌∷◌}
use Rattle.std.specs.Prelude.{not, ◌&&◌, ◌||◌}
use Rattle.std.proofs.lemmas.Int.{ints}
use Rattle.std.specs.List.{list_any}
use Rattle.std.specs.Ordering.{int_eq, is_eq}
use Rattle.std.proofs.lemmas.Bool.{or_left, or_right, not-false, not-true}
use Rattle.fs_model.proofs.Booleans.{and_first, and_second}
use Rattle.fs_model.proofs.Integers.{int_eq-true}
use Rattle.nf_trees.specs.NormalTerms.{Polynomial}
use Rattle.nf_trees.specs.Order.{same_polynomial}
use Rattle.nf_trees.specs.TermKeys.{polynomial_same}
use Rattle.nf_rel.specs.declared.kind.Kind.{Kind}
use Rattle.nf_rel.specs.declared.kind.Kind.TheVariants.{Ge, Le, Eq, Ne}
use Rattle.nf_rel.specs.Literals.{NormalLiteral, True, False, Is, meets, meets_along, meets_all, numbers_near, is_refuted_along}
use Rattle.nf_rel.proofs.Floors.{lt_true, lt_false}

pub same_self : (p : Polynomial) → same_polynomial p p ≡ true
same_self p = ap is_eq (polynomial_same p p refl)

pub along_own : (d : Polynomial) (k : Kind) (a v : ℤ) → meets_along d v (Is d k a) ≡ true → meets k v a ≡ true
along_own d k a v h = sym (ap (λ t. not t || meets k v a) (same_self d)) ∙ h

pub own_along : (d : Polynomial) (k : Kind) (a v : ℤ) → meets_along d v (Is d k a) ≡ meets k v a
own_along d k a v = ap (λ t. not t || meets k v a) (same_self d)

pub not_eq : (a b : ℤ) → (a ≡ b → ⊥) → int_eq a b ≡ false
not_eq a b f = by_test (int_eq a b) refl
  where
    by_test : (t : Bool) → int_eq a b ≡ t → t ≡ false
    by_test true e = absurd (f (int_eq-true a b e))
    by_test false e = refl

-- ---- where a walk down or up stops
stops_down : (k : Kind) (v b : ℤ) → meets k v b ≡ true → meets k (v -ℤ pos 1) b ≡ false → (v ≡ b) ⊎ (v ≡ b +ℤ pos 1)
stops_down Ge v b h n = inl (let x = lt_false v b (not-true _ h) in let y = lt_true (v -ℤ pos 1) b (not-false _ n) in omega (arith, ints))
stops_down Le v b h n = absurd (let x = lt_false b v (not-true _ h) in let y = lt_true b (v -ℤ pos 1) (not-false _ n) in omega (arith, ints))
stops_down Eq v b h n = inl (int_eq-true v b h)
stops_down Ne v b h n = inr (let x = int_eq-true (v -ℤ pos 1) b (not-false _ n) in omega (arith, ints, x))

stops_up : (k : Kind) (v b : ℤ) → meets k v b ≡ true → meets k (v +ℤ pos 1) b ≡ false → (v ≡ b) ⊎ (v ≡ b -ℤ pos 1)
stops_up Ge v b h n = absurd (let x = lt_false v b (not-true _ h) in let y = lt_true (v +ℤ pos 1) b (not-false _ n) in omega (arith, ints))
stops_up Le v b h n = inl (let x = lt_false b v (not-true _ h) in let y = lt_true b (v +ℤ pos 1) (not-false _ n) in omega (arith, ints))
stops_up Eq v b h n = inl (int_eq-true v b h)
stops_up Ne v b h n = inr (let x = int_eq-true (v +ℤ pos 1) b (not-false _ n) in omega (arith, ints, x))

module _ (d : Polynomial) (p : ℤ → Bool) where
  pub zero_near : (ls : List NormalLiteral) → p (pos 0) ≡ true → list_any p (numbers_near ls) ≡ true
  zero_near [] h = or_left (p (pos 0)) false h
  zero_near (True ∷ ls) h = zero_near ls h
  zero_near (False ∷ ls) h = zero_near ls h
  zero_near (Is e k b ∷ ls) h = or_right (p (b -ℤ pos 1)) _ (or_right (p b) _ (or_right (p (b +ℤ pos 1)) _ (zero_near ls h)))

  at_bound : (ls : List NormalLiteral) (e : Polynomial) (k : Kind) (b v : ℤ) → p v ≡ true → v ≡ b → list_any p (numbers_near (Is e k b ∷ ls)) ≡ true
  at_bound ls e k b v h q = or_right (p (b -ℤ pos 1)) _ (or_left (p b) _ (sym (ap p q) ∙ h))

  next_bound : (ls : List NormalLiteral) (e : Polynomial) (k : Kind) (b v : ℤ) → p v ≡ true → v ≡ b +ℤ pos 1 → list_any p (numbers_near (Is e k b ∷ ls)) ≡ true
  next_bound ls e k b v h q = or_right (p (b -ℤ pos 1)) _ (or_right (p b) _ (or_left (p (b +ℤ pos 1)) _ (sym (ap p q) ∙ h)))

  before_bound : (ls : List NormalLiteral) (e : Polynomial) (k : Kind) (b v : ℤ) → p v ≡ true → v ≡ b -ℤ pos 1
      → list_any p (numbers_near (Is e k b ∷ ls)) ≡ true
  before_bound ls e k b v h q = or_left (p (b -ℤ pos 1)) _ (sym (ap p q) ∙ h)

  further : (ls : List NormalLiteral) (e : Polynomial) (k : Kind) (b : ℤ) → list_any p (numbers_near ls) ≡ true
      → list_any p (numbers_near (Is e k b ∷ ls)) ≡ true
  further ls e k b h = or_right (p (b -ℤ pos 1)) _ (or_right (p b) _ (or_right (p (b +ℤ pos 1)) _ h))

  -- the literal at which the next number down fails
  near_down : (v : ℤ) (ls : List NormalLiteral) → p v ≡ true → meets_all d v ls ≡ true → meets_all d (v -ℤ pos 1) ls ≡ false
      → list_any p (numbers_near ls) ≡ true
  near_down v [] h m n = absurd (cc n)
  near_down v (True ∷ ls) h m n = near_down v ls h m n
  near_down v (False ∷ ls) h m n = near_down v ls h m n
  near_down v (Is e k b ∷ ls) h m n = by_test (same_polynomial d e) m n (λ x y. near_down v ls h x y)
    where
      by_next : (t : Bool) → meets k (v -ℤ pos 1) b ≡ t → meets k v b && meets_all d v ls ≡ true → t && meets_all d (v -ℤ pos 1) ls ≡ false
          → (meets_all d v ls ≡ true → meets_all d (v -ℤ pos 1) ls ≡ false → list_any p (numbers_near ls) ≡ true)
          → list_any p (numbers_near (Is e k b ∷ ls)) ≡ true
      by_next true s x y again = further ls e k b (again (and_second (meets k v b) (meets_all d v ls) x) y)
      by_next false s x y again =
          elim (stops_down k v b (and_first (meets k v b) (meets_all d v ls) x) s) [ inl q ↦ at_bound ls e k b v h q | inr q ↦ next_bound ls e k b v h q ]

      by_test : (t : Bool) → (not t || meets k v b) && meets_all d v ls ≡ true → (not t || meets k (v -ℤ pos 1) b) && meets_all d (v -ℤ pos 1) ls ≡ false
          → (meets_all d v ls ≡ true → meets_all d (v -ℤ pos 1) ls ≡ false → list_any p (numbers_near ls) ≡ true)
          → list_any p (numbers_near (Is e k b ∷ ls)) ≡ true
      by_test true x y again = by_next (meets k (v -ℤ pos 1) b) refl x y again
      by_test false x y again = further ls e k b (again x y)

  near_up : (v : ℤ) (ls : List NormalLiteral) → p v ≡ true → meets_all d v ls ≡ true → meets_all d (v +ℤ pos 1) ls ≡ false → list_any p (numbers_near ls) ≡ true
  near_up v [] h m n = absurd (cc n)
  near_up v (True ∷ ls) h m n = near_up v ls h m n
  near_up v (False ∷ ls) h m n = near_up v ls h m n
  near_up v (Is e k b ∷ ls) h m n = by_test (same_polynomial d e) m n (λ x y. near_up v ls h x y)
    where
      by_next : (t : Bool) → meets k (v +ℤ pos 1) b ≡ t → meets k v b && meets_all d v ls ≡ true → t && meets_all d (v +ℤ pos 1) ls ≡ false
          → (meets_all d v ls ≡ true → meets_all d (v +ℤ pos 1) ls ≡ false → list_any p (numbers_near ls) ≡ true)
          → list_any p (numbers_near (Is e k b ∷ ls)) ≡ true
      by_next true s x y again = further ls e k b (again (and_second (meets k v b) (meets_all d v ls) x) y)
      by_next false s x y again =
          elim (stops_up k v b (and_first (meets k v b) (meets_all d v ls) x) s) [ inl q ↦ at_bound ls e k b v h q | inr q ↦ before_bound ls e k b v h q ]

      by_test : (t : Bool) → (not t || meets k v b) && meets_all d v ls ≡ true → (not t || meets k (v +ℤ pos 1) b) && meets_all d (v +ℤ pos 1) ls ≡ false
          → (meets_all d v ls ≡ true → meets_all d (v +ℤ pos 1) ls ≡ false → list_any p (numbers_near ls) ≡ true)
          → list_any p (numbers_near (Is e k b ∷ ls)) ≡ true
      by_test true x y again = by_next (meets k (v +ℤ pos 1) b) refl x y again
      by_test false x y again = further ls e k b (again x y)

-- ---- from any number that meets all, towards 0
module _ (d : Polynomial) (ls : List NormalLiteral) where
  abbrev met : ℤ → Bool
  met v = meets_all d v ls

  from_above : (n : ℕ) (v : ℤ) → v ≡ pos n → met v ≡ true → list_any met (numbers_near ls) ≡ true
  from_above zero v q h = zero_near d met ls (sym (ap met q) ∙ h)
  from_above (suc n) v q h = by_test (met (v -ℤ pos 1)) refl (λ e. from_above n (v -ℤ pos 1) (omega (arith, ints, q)) e)
    where
      by_test : (t : Bool) → met (v -ℤ pos 1) ≡ t → (met (v -ℤ pos 1) ≡ true → list_any met (numbers_near ls) ≡ true) → list_any met (numbers_near ls) ≡ true
      by_test true e again = again e
      by_test false e again = near_down d met v ls h h e

  from_below : (n : ℕ) (v : ℤ) → v ≡ neg_ℤ (pos n) → met v ≡ true → list_any met (numbers_near ls) ≡ true
  from_below zero v q h = zero_near d met ls (sym (ap met q) ∙ h)
  from_below (suc n) v q h = by_test (met (v +ℤ pos 1)) refl (λ e. from_below n (v +ℤ pos 1) (omega (arith, ints, q)) e)
    where
      by_test : (t : Bool) → met (v +ℤ pos 1) ≡ t → (met (v +ℤ pos 1) ≡ true → list_any met (numbers_near ls) ≡ true) → list_any met (numbers_near ls) ≡ true
      by_test true e again = again e
      by_test false e again = near_up d met v ls h h e

  from_any : (v : ℤ) → met v ≡ true → list_any met (numbers_near ls) ≡ true
  from_any (pos n) h = from_above n (pos n) refl h
  from_any (negsuc n) h = from_below (suc n) (negsuc n) (omega (arith, ints)) h

  pub met_open : (v : ℤ) → met v ≡ true → is_refuted_along d ls ≡ false
  unfolding is_refuted_along
  met_open v h = ap not (from_any v h)

  pub refuted_none : is_refuted_along d ls ≡ true → (v : ℤ) → met v ≡ false
  refuted_none e v = by_test (met v) refl
    where
      by_test : (t : Bool) → met v ≡ t → t ≡ false
      by_test true h = sym e ∙ met_open v h
      by_test false h = refl

  pub none_refuted : ((v : ℤ) → met v ≡ false) → is_refuted_along d ls ≡ true
  unfolding is_refuted_along
  none_refuted f = ap not (none (numbers_near ls))
    where
      none : (vs : List ℤ) → list_any met vs ≡ false
      none [] = refl
      none (v ∷ vs) = ap (λ t. t || list_any met vs) (f v) ∙ none vs
