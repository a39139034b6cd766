use Rattle.std.proofs.Common.{◌≡◌, ◌<◌, ℕ, List, length, refl, sym, ◌∙◌}
use Rattle.std.specs.Prelude.{Option, Some, None, slice_get}
use Rattle.std.specs.Option.{option_map}
use Rattle.std.proofs.lemmas.Option.{slice_get_within}
use Rattle.show_inputs_text.proofs.values.value_at.Goals as goal

there : {X Y : Type 0} (f : X → Y) (xs : List X) (k : ℕ) (y : Y) → Some y ≡ option_map f (slice_get xs k) → k < length xs
there {X} f xs k y e = go (slice_get xs k) refl e
  where
    go : (o : Option X) → slice_get xs k ≡ o → Some y ≡ option_map f o → k < length xs
    go None is e = absurd (cc e)
    go (Some x) is e = slice_get_within xs k x is

pub get-requires : goal.get-requires
get-requires c = there _ _ _ _ (sym c.in-Some.is ∙ c.sort.ensures)
