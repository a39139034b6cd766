-- Inputs as the code has them: a value for each name.
use Rattle.std.specs.Prelude.{◌≡◌, ℕ, Bool, true, not, ◌&&◌, cond, pos, List, [], ◌∷◌, map, filter, Option, Some, None, slice_get}
use Rattle.std.specs.Str.{bytes_eq}
use Rattle.fs_model.specs.declared.parts.Sort.{Sort}
use Rattle.fs_model.specs.declared.parts.Sort.TheVariants.{Scalar, Array, Port}
use Rattle.fs_model.specs.declared.parts.VarInfo.{VarInfo}
use Rattle.fs_model.specs.Machines.{Fsmd}
use Rattle.fs_model.specs.Runs.{Inputs, Content, Number, Entries, Emitted, is_input, is_port, first_scalar, first_array}
use Rattle.fs_stores.specs.declared.values.Value.{Value}
use Rattle.fs_stores.specs.declared.inputs.Input.{Input}
use Rattle.fs_stores.specs.declared.inputs.Inputs.{Inputs as InputValues}
use Rattle.fs_stores.specs.Values.{value_number, entry_in, sort_of, content_of, zero_content}

-- the value that is given for a name, the first of several
abbrev pub value_named : List Input → List ℕ → Option Value
value_named [] name = None
value_named (i ∷ rest) name = cond (bytes_eq i.name name) (Some i.value) (value_named rest name)

-- the number and the array of each name
abbrev pub inputs_of : InputValues → Inputs
inputs_of ins = record {
  scalar = λ name. value_number (value_named ins.items.items name);
  array = λ name i. entry_in (value_named ins.items.items name) i;
}

-- the values in order
abbrev pub input_values : InputValues → List Value
input_values ins = map (λ i. i.value) ins.items.items

-- a name with a sort
abbrev pub Signature : Type 0
Signature = List ℕ × Sort

abbrev pub signature : Input → Signature
signature i = (i.name, sort_of i.value)

-- the names and sorts for which there is a value, in order
abbrev pub signatures_of : InputValues → List Signature
signatures_of ins = map signature ins.items.items

-- the names and sorts of a machine's inputs, in order of declaration
abbrev pub input_signatures : List VarInfo → List Signature
input_signatures vs = map (λ v. (v.name, v.sort)) (filter (λ v. is_input v.role) vs)

-- the sort of a name, the first of several
abbrev pub sort_named : List Signature → List ℕ → Option Sort
sort_named [] name = None
sort_named (f ∷ rest) name = cond (bytes_eq f.0 name) (Some f.1) (sort_named rest name)

-- among names with sorts is each input of a machine, with its sort
abbrev pub Serves : List Signature → Fsmd → Type 0
Serves signatures m = (k : ℕ) (v : VarInfo) → slice_get m.variables k ≡ Some v → is_input v.role ≡ true
    → sort_named signatures v.name ≡ Some v.sort

-- each value is 0, 0 at each index, or the empty list
abbrev pub AllZero : List Input → Type 0
AllZero [] = Unit {0}
AllZero (i ∷ rest) = (content_of i.value ≡ zero_content (sort_of i.value)) × AllZero rest

-- all numbers are 0
abbrev pub all_zero : Inputs
all_zero = record { scalar = λ name. pos 0; array = λ name i. pos 0 }

-- whether a variable starts with what the inputs give: an input does, but no port
abbrev pub is_given : VarInfo → Bool
is_given v = is_input v.role && not (is_port v.sort)

-- what a variable holds as a run starts
abbrev pub first_content_by : Inputs → VarInfo → Sort → Content
first_content_by ins v Scalar = Number (first_scalar ins (Some v))
first_content_by ins v Array = Entries (first_array ins (Some v))
first_content_by ins v Port = Emitted []

abbrev pub first_content : Inputs → VarInfo → Content
first_content ins v = first_content_by ins v v.sort
