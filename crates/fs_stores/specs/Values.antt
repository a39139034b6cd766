-- What the values of the code say.
use Rattle.std.specs.Prelude.{◌≡◌, ℕ, ◌+◌, nat_le, Bool, ℤ, pos, List, [], Option, Some, None, map, slice_get, vec_len}
use Rattle.std.specs.Prelude.{vec_capacity}
use Rattle.std.specs.Ordering.{int_cmp}
use Rattle.std.specs.Option.{unwrap_or}
use Rattle.std.specs.BTreeMap.{get}
use Rattle.fs_model.specs.declared.parts.Sort.{Sort}
use Rattle.fs_model.specs.declared.parts.Sort.TheVariants.{Scalar, Array, Port}
use Rattle.fs_model.specs.Machines.{Fsmd}
use Rattle.fs_model.specs.Stores.{Store}
use Rattle.fs_model.specs.Runs.{Content, Number, Entries as Listed, Emitted}
use Rattle.fs_stores.specs.declared.values.Entries.{Entries}
use Rattle.fs_stores.specs.declared.values.Value.{Value}
use Rattle.fs_stores.specs.declared.values.Value.TheVariants.{Num, Arr}
use Rattle.fs_stores.specs.declared.values.Value.TheVariants as values
use Rattle.fs_stores.specs.declared.numbers.Numbers.{Numbers}
use Rattle.fs_stores.specs.declared.store.Store.{Store as Held}

-- the number at an index: 0 where there is no entry
abbrev pub entry_number : Entries → ℤ → ℤ
entry_number e i = unwrap_or (get int_cmp e.map i) (pos 0)

-- the numbers of a list, in order
abbrev pub numbers_of : Numbers → List ℤ
numbers_of l = l.items.items

-- whether a list has room for so many more numbers
abbrev pub has_room : Numbers → ℕ → Bool
has_room l n = nat_le (vec_len l.items + n) (vec_capacity l.items)

-- what a variable holds at the end of a run
abbrev pub content_of : Value → Content
content_of (Num n) = Number n
content_of (Arr e) = Listed (entry_number e)
content_of (values.List l) = Emitted (numbers_of l)

abbrev pub sort_of : Value → Sort
sort_of (Num n) = Scalar
sort_of (Arr e) = Array
sort_of (values.List l) = Port

-- what a variable holds at the start that is no input
abbrev pub zero_content : Sort → Content
zero_content Scalar = Number (pos 0)
zero_content Array = Listed (λ i. pos 0)
zero_content Port = Emitted []

-- a value as a number, as an array and as a list: 0 or nothing where it is of another sort, or there is none
abbrev pub value_number : Option Value → ℤ
value_number None = pos 0
value_number (Some (Num n)) = n
value_number (Some (Arr e)) = pos 0
value_number (Some (values.List l)) = pos 0

abbrev pub entry_in : Option Value → ℤ → ℤ
entry_in None i = pos 0
entry_in (Some (Num n)) i = pos 0
entry_in (Some (Arr e)) i = entry_number e i
entry_in (Some (values.List l)) i = pos 0

abbrev pub value_list : Option Value → List ℤ
value_list None = []
value_list (Some (Num n)) = []
value_list (Some (Arr e)) = []
value_list (Some (values.List l)) = numbers_of l

-- the store that values stand for, one a variable
abbrev pub store_from : List Value → Store
store_from vs = record {
  scalar = λ x. value_number (slice_get vs x);
  array = λ x i. entry_in (slice_get vs x) i;
  port = λ x. value_list (slice_get vs x);
}

abbrev pub values_of : Held → List Value
values_of h = h.values.items

-- the store that a store of the code stands for
abbrev pub store_of : Held → Store
store_of h = store_from (values_of h)

-- a value for each variable of a machine, of its sort
abbrev pub HasSorts : Fsmd → List Value → Type 0
HasSorts m vs = map sort_of vs ≡ map (λ v. v.sort) m.variables

-- a store of the code is one of a machine
abbrev pub IsStoreOf : Fsmd → Held → Type 0
IsStoreOf m h = HasSorts m (values_of h)
