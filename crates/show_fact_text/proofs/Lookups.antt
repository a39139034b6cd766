-- What is added to a list for what stands at a place of another, among views of its members.
use Rattle.std.proofs.Common.{◌≡◌, ◌∙◌, ℕ, List, [], ◌++◌, map, Option, Some, None, Bor, ap, sym, append-nil, append_assoc, refl}
use Rattle.std.proofs.lemmas.Option.{slice_get-map, slice_get_read, slice_get_past}
use Rattle.std.specs.Prelude.{slice_get}
use Rattle.std.specs.Option.{option_map}
use Rattle.std.specs.Slice.{IsItemAt}

-- what is added by two calls
pub both_added : {R : Type 0} (old first new a b : List R) → first ≡ old ++ a → new ≡ first ++ b → new ≡ old ++ (a ++ b)
both_added old first new a b e h = h ∙ ap (λ r. r ++ b) e ∙ append_assoc old a b

module _ {A B R : Type 0} (view : A → B) (text : Option B → List R) (xs : List A) (i : ℕ) (o : Option (Bor A)) (found : IsItemAt xs i o) where
  looked_up : slice_get (map view xs) i ≡ option_map (λ (x : Bor A). view x.now) o
  looked_up = at o found
    where
      at : (o : Option (Bor A)) → IsItemAt xs i o → slice_get (map view xs) i ≡ option_map (λ (x : Bor A). view x.now) o
      at None h = slice_get-map view xs i ∙ ap (option_map view) (slice_get_past xs i h.3)
      at (Some x) h = slice_get-map view xs i ∙ ap (option_map view) (slice_get_read xs _ i x.now refl h.3.0 h.1)

  pub member_added : (x : Bor A) → o ≡ Some x → (old new : List R) → new ≡ old ++ text (Some (view x.now))
      → new ≡ old ++ text (slice_get (map view xs) i)
  member_added x is old new e = e ∙ ap (λ p. old ++ text p) (sym (looked_up ∙ ap (option_map (λ (x : Bor A). view x.now)) is))

  -- a place behind the last one adds nothing
  pub nothing_added : o ≡ None → text None ≡ [] → (old : List R) → old ≡ old ++ text (slice_get (map view xs) i)
  nothing_added is empty old =
      sym (ap (λ p. old ++ text p) (looked_up ∙ ap (option_map (λ (x : Bor A). view x.now)) is) ∙ ap (λ t. old ++ t) empty ∙ append-nil old)
