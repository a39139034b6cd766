-- How a file is read: where an input stands, and what one member gives.
use Rattle.std.specs.Prelude.{◌≡◌, ℕ, suc, Bool, true, false, cond, ℤ, List, [], ◌∷◌, Option, Some, None, option_map, slice_set}
use Rattle.std.specs.Str.{bytes_eq}
use Rattle.serde_json.specs.Data.{Data, Members}
use Rattle.fs_model.specs.Runs.{Inputs}
use Rattle.fs_stores.specs.declared.values.Value.{Value}
use Rattle.fs_stores.specs.declared.values.Entries.{Entries}
use Rattle.fs_stores.specs.Values.{value_number as number_held, entry_in, entry_number}
use Rattle.fs_stores.specs.InputValues.{Signature}
use Rattle.fs_inputs.specs.declared.numbers.Reading.{Reading}
use Rattle.fs_inputs.specs.declared.numbers.Reading.TheVariants.{NoNumber, TooBig, Number}
use Rattle.fs_inputs.specs.InputMembers.{input_number_or_zero, element_at, last_member_value, spells}

abbrev pub reads_number : Reading → Bool
reads_number NoNumber = false
reads_number TooBig = false
reads_number (Number n) = true

-- a number is spelled, in whatever range; no number outside 128 bits is
abbrev pub is_any : Reading → Bool
is_any NoNumber = false
is_any TooBig = true
is_any (Number n) = true

abbrev pub is_reading_within : Reading → Bool
is_reading_within NoNumber = true
is_reading_within TooBig = false
is_reading_within (Number n) = true

-- the place of a name, the first of several
abbrev pub input_place : List Signature → List ℕ → Option ℕ
input_place [] name = None
input_place (f ∷ rest) name = cond (bytes_eq f.0 name) (Some 0) (option_map suc (input_place rest name))

-- a value of the code says what a JSON value spells
pub record HoldsValue (v : Value) (d : Data) : Type 0 where
  pub number : number_held (Some v) ≡ input_number_or_zero (Some d)
  pub entries : (i : ℤ) → entry_in (Some v) i ≡ element_at (Some d) i

-- entries after a member of an array's object
pub record PutsEntry (name : List ℕ) (d : Data) (old new : Entries) : Type 0 where
  pub entries : (i : ℤ) → entry_number new i ≡ cond (spells i name) (input_number_or_zero (Some d)) (entry_number old i)

-- values after what a JSON value spells was put at a place
pub record IsGivenAt (old new : List Value) (place : ℕ) (d : Data) : Type 0 where
  pub held : Value
  pub holds : HoldsValue held d
  pub values : new ≡ slice_set old place held

-- inputs after a member of a file
pub record GivesMember (name : List ℕ) (d : Data) (old new : Inputs) : Type 0 where
  pub scalar : (q : List ℕ) → new.scalar q ≡ cond (bytes_eq name q) (input_number_or_zero (Some d)) (old.scalar q)
  pub array : (q : List ℕ) (i : ℤ) → new.array q i ≡ cond (bytes_eq name q) (element_at (Some d) i) (old.array q i)

-- what a value says, and else what was there
abbrev pub number_over : ℤ → Option Data → ℤ
number_over z None = z
number_over z (Some d) = input_number_or_zero (Some d)

abbrev pub element_over : ℤ → Option Data → ℤ → ℤ
element_over z None i = z
element_over z (Some d) i = element_at (Some d) i

-- entries and inputs with the members of an object put over them
abbrev pub entry_over : ℤ → Members → ℤ → ℤ
entry_over z ms i = number_over z (last_member_value (spells i) ms)

abbrev pub inputs_over : Inputs → Members → Inputs
inputs_over ins ms = record {
  scalar = λ name. number_over (ins.scalar name) (last_member_value (λ k. bytes_eq k name) ms);
  array = λ name i. element_over (ins.array name i) (last_member_value (λ k. bytes_eq k name) ms) i;
}
