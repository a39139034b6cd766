-- What bytes are as JSON.
use Rattle.std.specs.Prelude.{◌≡◌, ℕ, List, Some, IsUtf8}
use Rattle.serde_json.specs.Data.{Data}
use Rattle.serde_json.specs.Read.{read}
use Rattle.base_json_files.specs.declared.JsonError.{JsonError}
use Rattle.base_json_files.specs.declared.JsonError.TheVariants.{NotJson, NoMemory}

-- the bytes are text, and JSON of this value
pub record IsJson (bytes : List ℕ) (d : Data) : Type 0 where
  pub text : IsUtf8 bytes
  pub value : read bytes ≡ Some d

-- the bytes are not text, or not JSON
abbrev pub IsNotJson : List ℕ → Type 0
IsNotJson bytes = (d : Data) → ¬ IsJson bytes d

-- why bytes have no value; out of memory may come at any time
abbrev pub IsJsonRefusal : List ℕ → JsonError → Type 0
IsJsonRefusal bytes NotJson = IsNotJson bytes
IsJsonRefusal bytes NoMemory = Unit {0}
