-- Lists made of the members of others.
use Rattle.std.proofs.Common.{◌≡◌, inl, inr, ℕ, zero, suc, ◌<◌, refl, sym, ◌∙◌, ap, ap₂, arith, Bool, true, false, List, [], ◌∷◌, ◌++◌, map, length}
use Rattle.std.specs.Prelude.{cond, filter}
use Rattle.std.specs.List.{slice_index_or, flat_map}
use Rattle.std.proofs.lemmas.List.{map-append}
use Rattle.hls_block_filling.proofs.Among.{Among}

module _ {X Y : Type 0} where
  pub map_same : (f g : X → Y) (xs : List X) → ((x : X) → Among x xs → f x ≡ g x) → map f xs ≡ map g xs
  map_same f g [] h = refl
  map_same f g (x ∷ xs) h = ap₂ (λ (y : Y) (ys : List Y). y ∷ ys) (h x (inl refl)) (map_same f g xs (λ z w. h z (inr w)))

  pub flat_same : (f g : X → List Y) (xs : List X) → ((x : X) → Among x xs → f x ≡ g x) → flat_map f xs ≡ flat_map g xs
  flat_same f g [] h = refl
  flat_same f g (x ∷ xs) h = ap₂ (λ (a b : List Y). a ++ b) (h x (inl refl)) (flat_same f g xs (λ z w. h z (inr w)))

  kept_step : (f : X → Y) (x : X) (ys : List Y) (zs : List X) (t : Bool) → ys ≡ map f zs → cond t (f x ∷ []) [] ++ ys ≡ map f (cond t (x ∷ zs) zs)
  kept_step f x ys zs true e = ap (λ (r : List Y). f x ∷ r) e
  kept_step f x ys zs false e = e

  -- of each member one or none
  pub flat_kept : (test : X → Bool) (f : X → Y) (xs : List X) → flat_map (λ x. cond (test x) (f x ∷ []) []) xs ≡ map f (filter test xs)
  flat_kept test f [] = refl
  flat_kept test f (x ∷ xs) = kept_step f x (flat_map (λ y. cond (test y) (f y ∷ []) []) xs) (filter test xs) (test x) (flat_kept test f xs)

  pub among_mapped : (f : X → Y) (xs : List X) (y : Y) → Among y (map f xs) → (x : X) × Among x xs × (y ≡ f x)
  among_mapped f [] y h = absurd h
  among_mapped f (x ∷ xs) y (inl e) = (x, inl refl, e)
  among_mapped f (x ∷ xs) y (inr h) = let w = among_mapped f xs y h in (w.0, inr w.1, w.2)

  -- what holds of each of a list holds at each place in it
  pub each_at : (P : Y → Type 0) (f : X → Y) (xs : List X) (k : ℕ) (d : Y) → ((x : X) → Among x xs → P (f x)) → P d → P (slice_index_or (map f xs) k d)
  each_at P f [] k d h i = i
  each_at P f (x ∷ xs) zero d h i = h x (inl refl)
  each_at P f (x ∷ xs) (suc k) d h i = each_at P f xs k d (λ z w. h z (inr w)) i

  pub each_below : (P : Y → Type 0) (f : X → Y) (xs : List X) (k : ℕ) (d : Y) → k < length xs → ((x : X) → Among x xs → P (f x))
      → P (slice_index_or (map f xs) k d)
  each_below P f [] k d h i = absurd (omega (arith, h))
  each_below P f (x ∷ xs) zero d h i = i x (inl refl)
  each_below P f (x ∷ xs) (suc k) d h i = each_below P f xs k d (omega (arith, h)) (λ z w. i z (inr w))

module _ {X Y Z : Type 0} where
  pub map_flat : (g : Y → Z) (f : X → List Y) (xs : List X) → flat_map (λ x. map g (f x)) xs ≡ map g (flat_map f xs)
  map_flat g f [] = refl
  map_flat g f (x ∷ xs) = ap (λ (r : List Z). map g (f x) ++ r) (map_flat g f xs) ∙ sym (map-append g (f x) (flat_map f xs))
