-- What bytes are as a file of inputs, and why they are refused.
use Rattle.std.specs.Prelude.{◌≡◌, ℕ, List, Option, Some, None, string_bytes}
use Rattle.serde_json.specs.Data.{Data, Members}
use Rattle.base_json_files.specs.Json.{IsJson, IsNotJson}
use Rattle.serde_json.specs.Find.{as_object}
use Rattle.fs_model.specs.Runs.{Inputs}
use Rattle.fs_stores.specs.InputValues.{Signature}
use Rattle.fs_inputs.specs.declared.faults.Fault.{Fault}
use Rattle.fs_inputs.specs.declared.faults.Fault.TheVariants as faults
use Rattle.fs_inputs.specs.declared.faults.InputError.{InputError}
use Rattle.fs_inputs.specs.declared.faults.InputError.TheVariants.{NotJson, Shape, UnknownName, NumberTooBig, NoMemory}
use Rattle.fs_inputs.specs.InputMembers.{first_input_fault, input_file_fault, inputs_in}

-- a value is an object without fault, which spells these inputs
pub record ValueSpellsInputs (signatures : List Signature) (d : Data) (ins : Inputs) : Type 0 where
  pub members : Members
  pub object : as_object d ≡ Some members
  pub faultless : first_input_fault signatures members ≡ None
  pub inputs : ins ≡ inputs_in members

-- the bytes are JSON of an object without fault, which spells these inputs
pub record SpellsInputFile (signatures : List Signature) (bytes : List ℕ) (ins : Inputs) : Type 0 where
  pub value : Data
  pub json : IsJson bytes value
  pub spelled : ValueSpellsInputs signatures value ins

-- the bytes are JSON of a value whose first fault is this, at this name
pub record HasFaultyInput (signatures : List Signature) (bytes name : List ℕ) (f : Fault) : Type 0 where
  pub value : Data
  pub json : IsJson bytes value
  pub first : input_file_fault signatures (as_object value) ≡ Some (name, f)

-- why bytes are refused; out of memory may come at any time
abbrev pub IsRefusedAsInputs : List Signature → List ℕ → InputError → Type 0
IsRefusedAsInputs signatures bytes NotJson = IsNotJson bytes
IsRefusedAsInputs signatures bytes (Shape name) = HasFaultyInput signatures bytes (string_bytes name) faults.Shape
IsRefusedAsInputs signatures bytes (UnknownName name) = HasFaultyInput signatures bytes (string_bytes name) faults.Unknown
IsRefusedAsInputs signatures bytes (NumberTooBig name) = HasFaultyInput signatures bytes (string_bytes name) faults.TooBig
IsRefusedAsInputs signatures bytes NoMemory = Unit {0}

-- the refusal of a first fault
abbrev pub IsOfInputFault : Option (List ℕ × Fault) → InputError → Type 0
IsOfInputFault first NotJson = ⊥
IsOfInputFault first (Shape name) = first ≡ Some (string_bytes name, faults.Shape)
IsOfInputFault first (UnknownName name) = first ≡ Some (string_bytes name, faults.Unknown)
IsOfInputFault first (NumberTooBig name) = first ≡ Some (string_bytes name, faults.TooBig)
IsOfInputFault first NoMemory = Unit {0}
