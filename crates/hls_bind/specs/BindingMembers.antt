-- What an object of names and values is as a file of a binding.
use Rattle.std.specs.Prelude.{◌≡◌, ℕ, suc, Bool, cond, List, [], ◌∷◌, ◌++◌, Option, Some, None, option_map, slice_get}
use Rattle.std.specs.Prelude.{string_bytes}
use Rattle.std.specs.Option.{option_or}
use Rattle.std.specs.List.{list_any}
use Rattle.std.specs.Str.{bytes_eq}
use Rattle.fs_ast.specs.MachineOfParts.{place_or_end, names_of}
use Rattle.serde_json.specs.Data.{Data, Members, no_members, member}
use Rattle.base_json_files.specs.Json.{IsJson, IsNotJson}
use Rattle.serde_json.specs.Find.{as_str, as_object}
use Rattle.fs_model.specs.declared.parts.VarInfo.{VarInfo}
use Rattle.fs_model.specs.Words.{is_name}
use Rattle.hls_bind.specs.Bindings.{is_scalar_local}
use Rattle.hls_bind.specs.declared.faults.Fault.{Fault}
use Rattle.hls_bind.specs.declared.faults.Fault.TheVariants as faults
use Rattle.hls_bind.specs.declared.faults.BindError.{BindError}
use Rattle.hls_bind.specs.declared.faults.BindError.TheVariants.{NotJson, Shape, UnknownName, BadName, Taken, NoMemory}

-- whether a variable has the name
abbrev pub is_taken : List VarInfo → List ℕ → Bool
is_taken vs name = list_any (λ v. bytes_eq v.name name) vs

-- whether the name is that of a scalar local
abbrev pub names_local : List VarInfo → List ℕ → Bool
names_local vs name = is_scalar_local (slice_get vs (place_or_end (names_of vs) name))

-- what is wrong with the value of a local: a register is a string, a name, and no name of a variable
abbrev pub register_fault : List VarInfo → Option (List ℕ) → Option Fault
register_fault vs None = Some faults.Shape
register_fault vs (Some r) = cond (is_name r) (cond (is_taken vs r) (Some faults.Taken) None) (Some faults.BadName)

-- what is wrong with a name and its value
abbrev pub fault_of_binding : List VarInfo → List ℕ → Data → Option Fault
fault_of_binding vs name d = cond (names_local vs name) (register_fault vs (as_str d)) (Some faults.Unknown)

-- the first name with a fault, in the order of the members
abbrev pub first_binding_fault : List VarInfo → Members → Option (List ℕ × Fault)
first_binding_fault vs no_members = None
first_binding_fault vs (member name d ms) = option_or (option_map (λ f. (name, f)) (fault_of_binding vs name d))
    (first_binding_fault vs ms)

-- what is wrong with a file: of no name where it is no object
abbrev pub binding_file_fault : List VarInfo → Option Members → Option (List ℕ × Fault)
binding_file_fault vs None = Some ([], faults.Shape)
binding_file_fault vs (Some ms) = first_binding_fault vs ms

-- the register that an object gives a name
abbrev pub register_given : Members → List ℕ → Option (List ℕ)
register_given no_members name = None
register_given (member k d ms) name = cond (bytes_eq name k) (as_str d) (register_given ms name)

abbrev pub entry_at : ℕ → Option (List ℕ) → List (ℕ × List ℕ)
entry_at x None = []
entry_at x (Some r) = (x, r) ∷ []

-- the binding that an object gives the variables from number x on
abbrev pub binding_from : ℕ → List VarInfo → Members → List (ℕ × List ℕ)
binding_from x [] ms = []
binding_from x (v ∷ vs) ms = entry_at x (register_given ms v.name) ++ binding_from (suc x) vs ms

-- a value is an object without fault, which gives this binding
pub record GivenBy (vs : List VarInfo) (d : Data) (b : List (ℕ × List ℕ)) : Type 0 where
  pub members : Members
  pub object : as_object d ≡ Some members
  pub faultless : first_binding_fault vs members ≡ None
  pub binding : b ≡ binding_from 0 vs members

-- the bytes are JSON of an object without fault, which gives this binding
pub record GivesBinding (vs : List VarInfo) (bytes : List ℕ) (b : List (ℕ × List ℕ)) : Type 0 where
  pub value : Data
  pub json : IsJson bytes value
  pub given : GivenBy vs value b

-- the bytes are JSON of a value whose first fault is this, at this name
pub record HasFaultyBinding (vs : List VarInfo) (bytes name : List ℕ) (f : Fault) : Type 0 where
  pub value : Data
  pub json : IsJson bytes value
  pub first : binding_file_fault vs (as_object value) ≡ Some (name, f)

-- why bytes are refused; out of memory may come at any time
abbrev pub IsRefusedAsBinding : List VarInfo → List ℕ → BindError → Type 0
IsRefusedAsBinding vs bytes NotJson = IsNotJson bytes
IsRefusedAsBinding vs bytes (Shape name) = HasFaultyBinding vs bytes (string_bytes name) faults.Shape
IsRefusedAsBinding vs bytes (UnknownName name) = HasFaultyBinding vs bytes (string_bytes name) faults.Unknown
IsRefusedAsBinding vs bytes (BadName name) = HasFaultyBinding vs bytes (string_bytes name) faults.BadName
IsRefusedAsBinding vs bytes (Taken name) = HasFaultyBinding vs bytes (string_bytes name) faults.Taken
IsRefusedAsBinding vs bytes NoMemory = Unit {0}

-- the refusal of a first fault
abbrev pub IsOfBindingFault : Option (List ℕ × Fault) → BindError → Type 0
IsOfBindingFault first NotJson = ⊥
IsOfBindingFault first (Shape name) = first ≡ Some (string_bytes name, faults.Shape)
IsOfBindingFault first (UnknownName name) = first ≡ Some (string_bytes name, faults.Unknown)
IsOfBindingFault first (BadName name) = first ≡ Some (string_bytes name, faults.BadName)
IsOfBindingFault first (Taken name) = first ≡ Some (string_bytes name, faults.Taken)
IsOfBindingFault first NoMemory = Unit {0}
