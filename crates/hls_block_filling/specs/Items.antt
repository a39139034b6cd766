-- Items of a block, and the edges between them.
use Rattle.std.specs.Prelude.{ℕ, Bool, true, false, not, ◌&&◌, ◌||◌, List, [], ◌∷◌, ◌++◌, map}
use Rattle.std.specs.List.{list_any}
use Rattle.fs_model.specs.Expressions.{Expression, Number, Variable, Read, Sum, Difference, Product, Quotient, Remainder}
use Rattle.fs_model.specs.Expressions.{Negative}
use Rattle.fs_model.specs.Expressions.{Assignment, Assign, ArrayWrite, Emit}
use Rattle.fs_model.specs.Stores.{Store}
use Rattle.fs_model.specs.Meaning.{act_all}
use Rattle.fs_model.specs.SoundMachines.{changed_by, assigned_in, occurs}

-- an item: the assignments of one transition, over numbers of variables
abbrev pub Item : Type 0
Item = List (Assignment ℕ)

-- items one after another: each has its right sides, indices and emitted numbers valued in the store before it
abbrev pub store_after_items : List Item → Store → Store
store_after_items [] s = s
store_after_items (a ∷ items) s = store_after_items items (act_all a s s)

-- the variables that an expression reads, arrays with their indices
abbrev pub read_in : Expression ℕ → List ℕ
read_in (Number n) = []
read_in (Variable x) = x ∷ []
read_in (Read x i) = x ∷ read_in i
read_in (Sum a b) = read_in a ++ read_in b
read_in (Difference a b) = read_in a ++ read_in b
read_in (Product a b) = read_in a ++ read_in b
read_in (Quotient a b) = read_in a ++ read_in b
read_in (Remainder a b) = read_in a ++ read_in b
read_in (Negative a) = read_in a

abbrev pub variables_read_by : Assignment ℕ → List ℕ
variables_read_by (Assign x e) = read_in e
variables_read_by (ArrayWrite x i e) = read_in i ++ read_in e
variables_read_by (Emit x e) = read_in e

-- the variables that an item reads, and those that it changes
abbrev pub reads_of_item : Item → List ℕ
reads_of_item [] = []
reads_of_item (a ∷ rest) = variables_read_by a ++ reads_of_item rest

abbrev pub changes : Item → List ℕ
changes item = map changed_by item

-- the arrays that an item writes
abbrev pub stored_in : Item → List ℕ
stored_in [] = []
stored_in (Assign x e ∷ rest) = stored_in rest
stored_in (ArrayWrite x i e ∷ rest) = x ∷ stored_in rest
stored_in (Emit x e ∷ rest) = stored_in rest

-- whether an item emits
abbrev pub emits : Item → Bool
emits [] = false
emits (Assign x e ∷ rest) = emits rest
emits (ArrayWrite x i e ∷ rest) = emits rest
emits (Emit x e ∷ rest) = true

-- whether one of the second list occurs in the first
abbrev pub has_common_number : List ℕ → List ℕ → Bool
has_common_number xs ys = list_any (λ y. occurs y xs) ys

-- of two items in their order: the second reads what the first changes, or both assign the same scalar, or both emit
abbrev pub is_strict : Item → Item → Bool
is_strict i j = has_common_number (changes i) (reads_of_item j)
    || (has_common_number (assigned_in i) (assigned_in j) || (emits i && emits j))

-- otherwise: the first reads what the second changes, or both write the same array
abbrev pub is_weak : Item → Item → Bool
is_weak i j = not (is_strict i j)
    && (has_common_number (changes j) (reads_of_item i) || has_common_number (stored_in i) (stored_in j))
