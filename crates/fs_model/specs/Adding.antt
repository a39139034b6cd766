-- A list to which a value was added, where it was made.
use Rattle.std.specs.Prelude.{◌≡◌, List, [], ◌∷◌, ◌++◌, Result, Ok, Err}
use Rattle.fs_model.specs.declared.name.NoMemory.{NoMemory}

abbrev pub AddsIfMade : {T : Type 0} → Result T NoMemory → (old new : List T) → Type 0
AddsIfMade (Ok x) old new = new ≡ old ++ x ∷ []
AddsIfMade (Err e) old new = ⊥
