-- What is looked up at a place of a list, among views of its members.
use Rattle.std.proofs.Common.{◌≡◌, ◌∙◌, ℕ, List, map, Option, Some, None, Bor, refl, ap}
use Rattle.std.proofs.lemmas.Option.{slice_get-map, slice_get_read, slice_get_past}
use Rattle.std.specs.Prelude.{slice_get}
use Rattle.std.specs.Option.{option_map}
use Rattle.std.specs.Slice.{IsItemAt}

pub looked_up : {X Y : Type 0} (view : X → Y) (xs : List X) (i : ℕ) (o : Option (Bor X)) → IsItemAt xs i o
    → slice_get (map view xs) i ≡ option_map (λ (x : Bor X). view x.now) o
looked_up view xs i None h = slice_get-map view xs i ∙ ap (option_map view) (slice_get_past xs i h.3)
looked_up view xs i (Some x) h = slice_get-map view xs i ∙ ap (option_map view) (slice_get_read xs _ i x.now refl h.3.0 h.1)
