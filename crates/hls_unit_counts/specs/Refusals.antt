-- What bytes are as a file of unit counts, and why they are refused.
use Rattle.std.specs.Prelude.{◌≡◌, ℕ, List, Option, Some, None, string_bytes}
use Rattle.serde_json.specs.Data.{Data, Members}
use Rattle.base_json_files.specs.Json.{IsJson, IsNotJson}
use Rattle.serde_json.specs.Find.{as_object}
use Rattle.hls_unit_counts.specs.declared.faults.Fault.{Fault}
use Rattle.hls_unit_counts.specs.declared.faults.Fault.TheVariants as faults
use Rattle.hls_unit_counts.specs.declared.faults.UnitError.{UnitError}
use Rattle.hls_unit_counts.specs.declared.faults.UnitError.TheVariants.{NotJson, Shape, UnknownName, NoMemory}
use Rattle.hls_unit_counts.specs.Counts.{Units, first_count_fault, count_file_fault, counts_in}

-- a value is an object without fault, which gives these counts
pub record ValueSpellsCounts (d : Data) (units : Units) : Type 0 where
  pub members : Members
  pub object : as_object d ≡ Some members
  pub faultless : first_count_fault members ≡ None
  pub counts : units ≡ counts_in d

-- the bytes are JSON of an object without fault, which gives these counts
pub record SpellsCounts (bytes : List ℕ) (units : Units) : Type 0 where
  pub value : Data
  pub json : IsJson bytes value
  pub spelled : ValueSpellsCounts value units

-- the bytes are JSON of a value whose first fault is this, at this key
pub record HasFaultyCount (bytes key : List ℕ) (f : Fault) : Type 0 where
  pub value : Data
  pub json : IsJson bytes value
  pub first : count_file_fault (as_object value) ≡ Some (key, f)

-- why bytes are refused; out of memory may come at any time
abbrev pub IsRefusedAsCounts : List ℕ → UnitError → Type 0
IsRefusedAsCounts bytes NotJson = IsNotJson bytes
IsRefusedAsCounts bytes (Shape name) = HasFaultyCount bytes (string_bytes name) faults.Shape
IsRefusedAsCounts bytes (UnknownName name) = HasFaultyCount bytes (string_bytes name) faults.Unknown
IsRefusedAsCounts bytes NoMemory = Unit {0}

-- the refusal of a first fault
abbrev pub IsOfCountFault : Option (List ℕ × Fault) → UnitError → Type 0
IsOfCountFault first NotJson = ⊥
IsOfCountFault first (Shape name) = first ≡ Some (string_bytes name, faults.Shape)
IsOfCountFault first (UnknownName name) = first ≡ Some (string_bytes name, faults.Unknown)
IsOfCountFault first NoMemory = Unit {0}
