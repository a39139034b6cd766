-- Sets of variables by their members.
use Rattle.std.specs.Prelude.{ℕ, zero, suc, ◌==◌, nat_lt, Bool, false, ◌&&◌, ◌||◌, List, [], ◌∷◌}
use Rattle.std.specs.Int.{bit_at}
use Rattle.fs_variable_sets.specs.declared.VariableSet.{VariableSet}

-- whether a set has a variable
unfoldable pub has_variable : VariableSet → ℕ → Bool
has_variable set x = bit_at set.bits x == 1

-- these and one variable more, if it is numbered below 128
abbrev pub also : ℕ → (ℕ → Bool) → ℕ → Bool
also x members y = (x == y && nat_lt x 128) || members y

-- these and several variables more, those that are numbered below 128
abbrev pub also_all : List ℕ → (ℕ → Bool) → ℕ → Bool
also_all [] members = members
also_all (x ∷ xs) members = also_all xs (also x members)

-- whether some variable below a number is in both
unfoldable pub meets_below : ℕ → (a b : ℕ → Bool) → Bool
meets_below zero a b = false
meets_below (suc n) a b = (a n && b n) || meets_below n a b

-- whether some variable is in both
unfoldable pub sets_meet : (a b : ℕ → Bool) → Bool
sets_meet a b = meets_below 128 a b
