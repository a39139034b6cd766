-- What an object of names and values is as a file of inputs.
use Rattle.std.specs.Prelude.{ℕ, Bool, true, false, ◌&&◌, is_some, cond, ℤ, pos, List, [], Option, Some, None, option_map}
use Rattle.std.specs.Option.{unwrap_or, option_or}
use Rattle.std.specs.Ordering.{int_eq}
use Rattle.std.specs.Str.{bytes_eq}
use Rattle.serde_json.specs.Data.{Num, Data, Members, no_members, member}
use Rattle.serde_json.specs.Find.{as_integer, as_number, as_str, as_object}
use Rattle.fs_model.specs.declared.parts.Sort.{Sort}
use Rattle.fs_model.specs.declared.parts.Sort.TheVariants.{Scalar, Array, Port}
use Rattle.fs_model.specs.Runs.{Inputs}
use Rattle.fs_stores.specs.InputValues.{Signature, sort_named}
use Rattle.fs_inputs.specs.declared.faults.Fault.{Fault}
use Rattle.fs_inputs.specs.declared.faults.Fault.TheVariants.{Shape, Unknown, TooBig}
use Rattle.fs_inputs.specs.Numbers.{number_in, fits}

-- the number that a value spells: a whole number of 64 bits, or the text of a number
abbrev pub spelled_number : Option Num → Option (List ℕ) → Option ℤ
spelled_number (Some n) text = as_integer n
spelled_number None (Some text) = number_in text
spelled_number None None = None

abbrev pub whole_number_of : Data → Option ℤ
whole_number_of d = spelled_number (as_number d) (as_str d)

-- whether each name and each value spells a number
abbrev pub are_numbers : Members → Bool
are_numbers no_members = true
are_numbers (member k d ms) = is_some (number_in k) && is_some (whole_number_of d) && are_numbers ms

-- a number that is spelled has 128 bits
abbrev pub fits_if_any : Option ℤ → Bool
fits_if_any None = true
fits_if_any (Some z) = fits z

-- whether no name and no value spells a number outside 128 bits
abbrev pub all_fit : Members → Bool
all_fit no_members = true
all_fit (member k d ms) = fits_if_any (number_in k) && fits_if_any (whole_number_of d) && all_fit ms

abbrev pub number_fault : Option ℤ → Option Fault
number_fault None = Some Shape
number_fault (Some z) = cond (fits z) None (Some TooBig)

-- the form of the whole array comes before the size of its numbers
abbrev pub array_fault : Option Members → Option Fault
array_fault None = Some Shape
array_fault (Some ms) = cond (are_numbers ms) (cond (all_fit ms) None (Some TooBig)) (Some Shape)

-- what is wrong with the value of an input of a sort; a port is no input
abbrev pub input_value_fault : Sort → Data → Option Fault
input_value_fault Scalar d = number_fault (whole_number_of d)
input_value_fault Array d = array_fault (as_object d)
input_value_fault Port d = Some Unknown

-- what is wrong with the value of a name of this sort, or of a name that no input has
abbrev pub fault_of_input : Option Sort → Data → Option Fault
fault_of_input None d = Some Unknown
fault_of_input (Some sort) d = input_value_fault sort d

-- the first name with a fault, in the order of the members
abbrev pub first_input_fault : List Signature → Members → Option (List ℕ × Fault)
first_input_fault signatures no_members = None
first_input_fault signatures (member name d ms) =
    option_or (option_map (λ f. (name, f)) (fault_of_input (sort_named signatures name) d)) (first_input_fault signatures ms)

-- what is wrong with a file: of no name where it is no object
abbrev pub input_file_fault : List Signature → Option Members → Option (List ℕ × Fault)
input_file_fault signatures None = Some ([], Shape)
input_file_fault signatures (Some ms) = first_input_fault signatures ms

-- the value of the last member whose name passes a test
abbrev pub last_member_value : (List ℕ → Bool) → Members → Option Data
last_member_value test no_members = None
last_member_value test (member k d ms) = option_or (last_member_value test ms) (cond (test k) (Some d) None)

-- the number that a value spells, 0 where it spells none or there is no value
abbrev pub input_number_or_zero : Option Data → ℤ
input_number_or_zero None = pos 0
input_number_or_zero (Some d) = unwrap_or (whole_number_of d) (pos 0)

abbrev pub is_the : ℤ → Option ℤ → Bool
is_the i None = false
is_the i (Some j) = int_eq j i

-- whether a text spells this number
abbrev pub spells : ℤ → List ℕ → Bool
spells i text = is_the i (number_in text)

-- the number at an index: what the last member spells whose name spells the index
abbrev pub element_in : Option Members → ℤ → ℤ
element_in None i = pos 0
element_in (Some ms) i = input_number_or_zero (last_member_value (spells i) ms)

abbrev pub element_at : Option Data → ℤ → ℤ
element_at None i = pos 0
element_at (Some d) i = element_in (as_object d) i

-- the inputs that an object spells: of equal names the last counts, and what is not named is 0
abbrev pub inputs_in : Members → Inputs
inputs_in ms = record {
  scalar = λ name. input_number_or_zero (last_member_value (λ k. bytes_eq k name) ms);
  array = λ name i. element_at (last_member_value (λ k. bytes_eq k name) ms) i;
}
