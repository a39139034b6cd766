-- What holds of each member.
use Rattle.std.proofs.Common.{◌≡◌, ℕ, suc, refl, List, [], ◌∷◌, ◌++◌, map, Some}
use Rattle.std.specs.Prelude.{slice_get}
use Rattle.std.specs.List.{flat_map, AllByRecursion}
use Rattle.base_laws.proofs.Quantifiers.{each_append}

front : {X : Type 0} (P : X → Type 0) (xs ys : List X) → AllByRecursion P (xs ++ ys) → AllByRecursion P xs
front P [] ys h = tt
front P (x ∷ xs) ys h = (h.0, front P xs ys h.1)

back : {X : Type 0} (P : X → Type 0) (xs ys : List X) → AllByRecursion P (xs ++ ys) → AllByRecursion P ys
back P [] ys h = h
back P (x ∷ xs) ys h = back P xs ys h.1

pub all_in : {X : Type 0} (P : X → Type 0) (xs : List X) → ((k : ℕ) (x : X) → slice_get xs k ≡ Some x → P x) → AllByRecursion P xs
all_in P [] h = tt
all_in P (x ∷ xs) h = (h 0 x refl, all_in P xs (λ k y e. h (suc k) y e))

pub all_mapped : {X Y : Type 0} (P : Y → Type 0) (f : X → Y) (xs : List X) → ((x : X) → P (f x)) → AllByRecursion P (map f xs)
all_mapped P f [] h = tt
all_mapped P f (x ∷ xs) h = (h x, all_mapped P f xs h)

pub all_maps : {X Y Z : Type 0} (P : Y → Type 0) (Q : Z → Type 0) (f : X → Y) (g : X → Z) (xs : List X) → ((x : X) → P (f x) → Q (g x))
    → AllByRecursion P (map f xs) → AllByRecursion Q (map g xs)
all_maps P Q f g [] t h = tt
all_maps P Q f g (x ∷ xs) t h = (t x h.0, all_maps P Q f g xs t h.1)

pub all_flat : {X Y : Type 0} (P : Y → Type 0) (f : X → List Y) (xs : List X) → AllByRecursion (λ x. AllByRecursion P (f x)) xs
    → AllByRecursion P (flat_map f xs)
all_flat P f [] h = tt
all_flat P f (x ∷ xs) h = each_append P (f x) (flat_map f xs) h.0 (all_flat P f xs h.1)

pub all_flats : {X Y Z : Type 0} (P : Y → Type 0) (Q : Z → Type 0) (f : X → List Y) (g : X → List Z) (xs : List X)
    → ((x : X) → AllByRecursion P (f x) → AllByRecursion Q (g x)) → AllByRecursion P (flat_map f xs) → AllByRecursion Q (flat_map g xs)
all_flats P Q f g [] t h = tt
all_flats P Q f g (x ∷ xs) t h = each_append Q (g x) (flat_map g xs) (t x (front P (f x) (flat_map f xs) h))
    (all_flats P Q f g xs t (back P (f x) (flat_map f xs) h))

pub all_from : {X Y : Type 0} (P : X → Type 0) (Q : Y → Type 0) (f : X → Y) (xs : List X) → ((x : X) → P x → Q (f x)) → AllByRecursion P xs
    → AllByRecursion Q (map f xs)
all_from P Q f [] t h = tt
all_from P Q f (x ∷ xs) t h = (t x h.0, all_from P Q f xs t h.1)
