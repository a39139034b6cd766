-- What an object of keys and values is as a file of unit counts.
use Rattle.std.specs.Prelude.{ℕ, nat_le, Bool, cond, List, [], ◌∷◌, Option, Some, None, option_map, option_and_then, codes}
use Rattle.std.specs.Option.{option_or}
use Rattle.std.specs.List.{list_any}
use Rattle.std.specs.Str.{bytes_eq}
use Rattle.serde_json.specs.Data.{Data, Members, no_members, member}
use Rattle.serde_json.specs.Find.{get, as_number, as_u64}
use Rattle.hls_unit_counts.specs.declared.units.Unit.{Unit as Kind}
use Rattle.hls_unit_counts.specs.declared.units.Unit.TheVariants.{Add, Mul, Div, Mem}
use Rattle.hls_unit_counts.specs.declared.units.Units.{Units as Counts}
use Rattle.hls_unit_counts.specs.declared.faults.Fault.{Fault}
use Rattle.hls_unit_counts.specs.declared.faults.Fault.TheVariants.{Shape, Unknown}

-- a number of units of each kind
abbrev pub Units : Type 0
Units = Kind → ℕ

-- the counts of the code by kind
abbrev pub units_in : Counts → Units
units_in u Add = u.add
units_in u Mul = u.mul
units_in u Div = u.div
units_in u Mem = u.mem

-- the greatest count, and that of a kind that is not named
abbrev pub most_count : ℕ
most_count = 1000000

-- the key of a kind
abbrev pub kind_key : Kind → List ℕ
kind_key Add = codes "add"
kind_key Mul = codes "mul"
kind_key Div = codes "div"
kind_key Mem = codes "mem"

abbrev pub is_kind : List ℕ → Bool
is_kind key = list_any (bytes_eq key) (kind_key Add ∷ kind_key Mul ∷ kind_key Div ∷ kind_key Mem ∷ [])

-- the whole number that a value is
abbrev pub whole_count : Data → Option ℕ
whole_count d = option_and_then as_u64 (as_number d)

abbrev pub count_fault : Option ℕ → Option Fault
count_fault None = Some Shape
count_fault (Some n) = cond (nat_le n most_count) None (Some Shape)

-- what is wrong with a value
abbrev pub count_value_fault : Data → Option Fault
count_value_fault d = count_fault (whole_count d)

-- what is wrong with a key or its value
abbrev pub fault_of_count : List ℕ → Data → Option Fault
fault_of_count key d = cond (is_kind key) (count_value_fault d) (Some Unknown)

-- the first key with a fault, in the order of the members
abbrev pub first_count_fault : Members → Option (List ℕ × Fault)
first_count_fault no_members = None
first_count_fault (member key d ms) = option_or (option_map (λ f. (key, f)) (fault_of_count key d)) (first_count_fault ms)

-- what is wrong with a file: of no key where it is no object
abbrev pub count_file_fault : Option Members → Option (List ℕ × Fault)
count_file_fault None = Some ([], Shape)
count_file_fault (Some ms) = first_count_fault ms

abbrev pub count_or : Option ℕ → ℕ
count_or None = most_count
count_or (Some n) = cond (nat_le n most_count) n most_count

-- the count that a value gives, and the greatest one where there is no value
abbrev pub count_of : Option Data → ℕ
count_of value = count_or (option_and_then whole_count value)

-- the counts that an object gives
abbrev pub counts_in : Data → Units
counts_in d kind = count_of (get (kind_key kind) d)
