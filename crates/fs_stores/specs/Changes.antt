-- What a step changes.
use Rattle.std.specs.Prelude.{◌≡◌, ℕ, Bool, true, false, is_some, cond, ℤ, IsTrue, List, [], ◌∷◌, ◌++◌, length, map, Option, Some}
use Rattle.std.specs.Prelude.{None, slice_get}
use Rattle.std.specs.List.{list_all}
use Rattle.std.specs.Ordering.{int_cmp, int_eq}
use Rattle.std.specs.BTreeMap.{get}
use Rattle.fs_model.specs.Expressions.{Assignment, Assign, ArrayWrite, Emit}
use Rattle.fs_model.specs.Stores.{Store, store_with_number, store_with_entry, store_with_emit}
use Rattle.fs_model.specs.Meaning.{value}
use Rattle.fs_stores.specs.declared.values.Value.{Value}
use Rattle.fs_stores.specs.declared.values.Value.TheVariants.{Num, Arr}
use Rattle.fs_stores.specs.declared.values.Value.TheVariants as values
use Rattle.fs_stores.specs.declared.changes.Change.{Change}
use Rattle.fs_stores.specs.declared.changes.Change.TheVariants.{Set, Put, Append}
use Rattle.fs_stores.specs.declared.changes.StepStop.{StepStop}
use Rattle.fs_stores.specs.declared.changes.StepStop.TheVariants.{PastWide, NoMemory}
use Rattle.fs_stores.specs.Values.{sort_of, value_number, entry_in, value_list, has_room, store_from}
use Rattle.fs_stores.specs.Reads.{EachFits}

-- a stop at a number outside 128 bits comes only where P; out of memory may come at any time
abbrev pub PastOnly : StepStop → Type 0 → Type 0
PastOnly PastWide P = P
PastOnly NoMemory P = Unit {0}

-- what an assignment changes, valued in the store before the step
abbrev pub change_by : Store → Assignment ℕ → Change
change_by s (Assign x e) = Set x (value e s)
change_by s (ArrayWrite x i e) = Put x (value i s) (value e s)
change_by s (Emit x e) = Append x (value e s)

-- each part of an assignment's index and right side, or of what it emits, has its value within 128 bits
abbrev pub AssignmentFits : Store → Assignment ℕ → Type 0
AssignmentFits s (Assign x e) = EachFits e s
AssignmentFits s (ArrayWrite x i e) = EachFits i s × EachFits e s
AssignmentFits s (Emit x e) = EachFits e s

abbrev pub AssignmentsFit : Store → List (Assignment ℕ) → Type 0
AssignmentsFit s [] = Unit {0}
AssignmentsFit s (a ∷ rest) = AssignmentFits s a × AssignmentsFit s rest

-- a store after a change, and after changes in order
abbrev pub change_store : Store → Change → Store
change_store s (Set x v) = store_with_number s x v
change_store s (Put x i v) = store_with_entry s x i v
change_store s (Append x v) = store_with_emit s x v

abbrev pub changed_all : Store → List Change → Store
changed_all s [] = s
changed_all s (c ∷ cs) = changed_all (change_store s c) cs

abbrev pub is_number_value : Option Value → Bool
is_number_value None = false
is_number_value (Some (Num n)) = true
is_number_value (Some (Arr e)) = false
is_number_value (Some (values.List l)) = false

abbrev pub is_array_value : Option Value → Bool
is_array_value None = false
is_array_value (Some (Num n)) = false
is_array_value (Some (Arr e)) = true
is_array_value (Some (values.List l)) = false

abbrev pub is_list : Option Value → Bool
is_list None = false
is_list (Some (Num n)) = false
is_list (Some (Arr e)) = false
is_list (Some (values.List l)) = true

-- whether an array has room at an index: an entry stands there, which may be 0
abbrev pub room_in : Option Value → ℤ → Bool
room_in None i = false
room_in (Some (Num n)) i = false
room_in (Some (Arr e)) i = is_some (get int_cmp e.map i)
room_in (Some (values.List l)) i = false

-- whether a list has room for so many more numbers
abbrev pub room_for : Option Value → ℕ → Bool
room_for None n = false
room_for (Some (Num m)) n = false
room_for (Some (Arr e)) n = false
room_for (Some (values.List l)) n = has_room l n

-- whether a change is of a variable that is there and of the right sort
abbrev pub suits : List Value → Change → Bool
suits vs (Set x v) = is_number_value (slice_get vs x)
suits vs (Put x i v) = is_array_value (slice_get vs x)
suits vs (Append x v) = is_list (slice_get vs x)

-- whether a change can be made without memory, also where it is the last of so many
abbrev pub is_ready_change : ℕ → List Value → Change → Bool
is_ready_change n vs (Set x v) = is_number_value (slice_get vs x)
is_ready_change n vs (Put x i v) = room_in (slice_get vs x) i
is_ready_change n vs (Append x v) = room_for (slice_get vs x) n

abbrev pub AllSuit : List Value → List Change → Type 0
AllSuit vs cs = IsTrue (list_all (suits vs) cs)

-- what was ready stays so, and the store and the sorts stay
pub record StaysReady (old new : List Value) : Type 0 where
  pub keeps : (n : ℕ) (c : Change) → is_ready_change n old c ≡ true → is_ready_change n new c ≡ true
  pub same : store_from new ≡ store_from old
  pub sorts : map sort_of new ≡ map sort_of old

abbrev pub AllReady : List Value → List Change → Type 0
AllReady vs cs = IsTrue (list_all (is_ready_change (length cs) vs) cs)

-- a value that reads as another does
pub record ReadsAlike (old new : Value) : Type 0 where
  pub sort : sort_of new ≡ sort_of old
  pub number : value_number (Some new) ≡ value_number (Some old)
  pub entries : (j : ℤ) → entry_in (Some new) j ≡ entry_in (Some old) j
  pub list : value_list (Some new) ≡ value_list (Some old)

-- an array after a number is put at an index
pub record PutsAtIndex (i v : ℤ) (old new : Value) : Type 0 where
  pub sort : sort_of new ≡ sort_of old
  pub number : value_number (Some new) ≡ value_number (Some old)
  pub entries : (j : ℤ) → entry_in (Some new) j ≡ cond (int_eq i j) v (entry_in (Some old) j)
  pub list : value_list (Some new) ≡ value_list (Some old)

-- a list after a number is appended
pub record Appends (v : ℤ) (old new : Value) : Type 0 where
  pub sort : sort_of new ≡ sort_of old
  pub number : value_number (Some new) ≡ value_number (Some old)
  pub entries : (j : ℤ) → entry_in (Some new) j ≡ entry_in (Some old) j
  pub list : value_list (Some new) ≡ value_list (Some old) ++ v ∷ []

-- where an array had room it has room, and where a list had room for m more numbers it has room for n more
pub record KeepsRoom (m n : ℕ) (old new : Value) : Type 0 where
  pub entries : (j : ℤ) → room_in (Some old) j ≡ true → room_in (Some new) j ≡ true
  pub numbers : room_for (Some old) m ≡ true → room_for (Some new) n ≡ true
