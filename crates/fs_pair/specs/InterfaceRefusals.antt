-- What a refusal tells.
use Rattle.std.specs.Prelude.{◌≡◌, ℕ, List, Option, Some}
use Rattle.fs_pair.specs.declared.positions.FaceError.{FaceError}
use Rattle.fs_pair.specs.declared.positions.FaceError.TheVariants.{Interface, NoMemory}

-- the name in a refusal is the one at fault; out of memory tells nothing
abbrev pub TellsFault : Option (List ℕ) → FaceError → Type 0
TellsFault fault (Interface name) = fault ≡ Some name
TellsFault fault NoMemory = Unit {0}
