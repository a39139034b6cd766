-- Members of lists.
use Rattle.std.proofs.Common.{◌≡◌, ◌⊎◌, inl, inr, ℕ, zero, suc, ◌+◌, ◌<◌, ◌≤◌, refl, sym, ◌∙◌, ap, subst, arith, Bool, true, false, List, [], ◌∷◌, ◌++◌}
use Rattle.std.specs.Prelude.{◌==◌, ◌≢◌, ◌||◌, cond, filter, slice_get, Some}
use Rattle.std.specs.List.{range_with_len, list_any, flat_map}
use Rattle.std.proofs.lemmas.Bool.Decides.{nat_tests}
use Rattle.std.proofs.lemmas.Bool.{or_left, or_right}
use Rattle.std.proofs.lemmas.Option.{same_Some}
use Rattle.fs_model.specs.SoundMachines.{occurs}

abbrev pub Among : {X : Type 0} → X → List X → Type 0
Among x [] = ⊥
Among x (y ∷ ys) = (x ≡ y) ⊎ Among x ys

range_step : (a n q : ℕ) (t : Bool) → (q == a) ≡ t → a ≤ q → (a + 1 ≤ q → Among q (range_with_len (a + 1) n)) → (q ≡ a) ⊎ Among q (range_with_len (a + 1) n)
range_step a n q true e h w = inl (grind (arith, nat_tests))
range_step a n q false e h w = inr (w (let d : q ≢ a = grind (arith, nat_tests) in omega (arith, d)))

pub among_at : {X : Type 0} (xs : List X) (j : ℕ) (x : X) → slice_get xs j ≡ Some x → Among x xs
among_at [] j x e = absurd (cc e)
among_at (y ∷ ys) zero x e = inl (sym (same_Some y x e))
among_at (y ∷ ys) (suc j) x e = inr (among_at ys j x e)

module _ {X : Type 0} where
  among_left : (x : X) (xs ys : List X) → Among x xs → Among x (xs ++ ys)
  among_left x [] ys h = absurd h
  among_left x (z ∷ xs) ys (inl e) = inl e
  among_left x (z ∷ xs) ys (inr h) = inr (among_left x xs ys h)

  among_right : (x : X) (xs ys : List X) → Among x ys → Among x (xs ++ ys)
  among_right x [] ys h = h
  among_right x (z ∷ xs) ys h = inr (among_right x xs ys h)

  parted : (x : X) (xs ys : List X) → Among x (xs ++ ys) → Among x xs ⊎ Among x ys
  parted x [] ys h = inr h
  parted x (z ∷ xs) ys (inl e) = inl (inl e)
  parted x (z ∷ xs) ys (inr h) = elim (parted x xs ys h) as (λ _. Among x (z ∷ xs) ⊎ Among x ys) [ inl a ↦ inl (inr a) | inr b ↦ inr b ]

  -- of a member of a filtered list
  kept_step : (p : X → Bool) (x y : X) (ys : List X) (t : Bool) → p y ≡ t → Among x (cond t (y ∷ ys) ys) → (Among x ys → p x ≡ true) → p x ≡ true
  kept_step p x y ys true e (inl f) h = ap p f ∙ e
  kept_step p x y ys true e (inr g) h = h g
  kept_step p x y ys false e g h = h g

  pub passes_test : (p : X → Bool) (x : X) (xs : List X) → Among x (filter p xs) → p x ≡ true
  passes_test p x [] h = absurd h
  passes_test p x (y ∷ ys) h = kept_step p x y (filter p ys) (p y) refl h (passes_test p x ys)

  was_step : (x y : X) (zs ys : List X) (t : Bool) → Among x (cond t (y ∷ zs) zs) → (Among x zs → Among x ys) → Among x (y ∷ ys)
  was_step x y zs ys true (inl f) h = inl f
  was_step x y zs ys true (inr g) h = inr (h g)
  was_step x y zs ys false g h = inr (h g)

  pub was_among : (p : X → Bool) (x : X) (xs : List X) → Among x (filter p xs) → Among x xs
  was_among p x [] h = absurd h
  was_among p x (y ∷ ys) h = was_step x y (filter p ys) ys (p y) h (was_among p x ys)

  stays_step : (p : X → Bool) (x y : X) (zs : List X) (t : Bool) → p y ≡ t → p x ≡ true → (x ≡ y) ⊎ Among x zs → Among x (cond t (y ∷ zs) zs)
  stays_step p x y zs true e h w = w
  stays_step p x y zs false e h (inl f) = absurd (let g : p y ≡ true = ap p (sym f) ∙ h in cc (sym e ∙ g))
  stays_step p x y zs false e h (inr g) = g

  pub stays_among : (p : X → Bool) (x : X) (xs : List X) → p x ≡ true → Among x xs → Among x (filter p xs)
  stays_among p x [] h w = absurd w
  stays_among p x (y ∷ ys) h (inl e) = stays_step p x y (filter p ys) (p y) refl h (inl e)
  stays_among p x (y ∷ ys) h (inr w) = stays_step p x y (filter p ys) (p y) refl h (inr (stays_among p x ys h w))

  some_step : (p : X → Bool) (x : X) (xs : List X) (t : Bool) → p x ≡ t → (t || list_any p xs) ≡ true
      → (list_any p xs ≡ true → (z : X) × Among z xs × (p z ≡ true)) → (z : X) × Among z (x ∷ xs) × (p z ≡ true)
  some_step p x xs true e h next = (x, inl refl, e)
  some_step p x xs false e h next = let w = next h in (w.0, inr w.1, w.2)

  pub some_of : (p : X → Bool) (xs : List X) → list_any p xs ≡ true → (x : X) × Among x xs × (p x ≡ true)
  some_of p [] h = absurd (cc h)
  some_of p (x ∷ xs) h = some_step p x xs (p x) refl h (some_of p xs)

  pub any_of : (p : X → Bool) (x : X) (xs : List X) → Among x xs → p x ≡ true → list_any p xs ≡ true
  any_of p x [] h e = absurd h
  any_of p x (y ∷ ys) (inl f) e = or_left (p y) (list_any p ys) (ap p (sym f) ∙ e)
  any_of p x (y ∷ ys) (inr h) e = or_right (p y) (list_any p ys) (any_of p x ys h e)

module _ {X Y : Type 0} (f : X → List Y) where
  pub joined_from : (y : Y) (xs : List X) → Among y (flat_map f xs) → (x : X) × Among x xs × Among y (f x)
  joined_from y [] h = absurd h
  joined_from y (x ∷ xs) h = elim (parted y (f x) (flat_map f xs) h) as (λ _. (z : X) × Among z (x ∷ xs) × Among y (f z)) [
    | inl a ↦ (x, inl refl, a)
    | inr b ↦ (let w = joined_from y xs b in (w.0, inr w.1, w.2))
  ]

  pub in_joined : (y : Y) (x : X) (xs : List X) → Among x xs → Among y (f x) → Among y (flat_map f xs)
  in_joined y x [] h a = absurd h
  in_joined y x (z ∷ zs) (inl e) a = among_left y (f z) (flat_map f zs) (subst (λ w. Among y (f w)) e a)
  in_joined y x (z ∷ zs) (inr h) a = among_right y (f z) (flat_map f zs) (in_joined y x zs h a)

pub in_range : (a n q : ℕ) → a ≤ q → q < a + n → Among q (range_with_len a n)
in_range a zero q h i = absurd (omega arith)
in_range a (suc n) q h i = range_step a n q (q == a) refl h (λ j. in_range (a + 1) n q j (omega arith))

pub range_within : (a n q : ℕ) → Among q (range_with_len a n) → q < a + n
range_within a zero q h = absurd h
range_within a (suc n) q (inl e) = omega (arith, e)
range_within a (suc n) q (inr h) = omega (arith, range_within (a + 1) n q h)

pub occurs_among : (x : ℕ) (xs : List ℕ) → Among x xs → occurs x xs ≡ true
occurs_among x xs h = any_of (λ y. y == x) x xs h (grind (arith, nat_tests))
