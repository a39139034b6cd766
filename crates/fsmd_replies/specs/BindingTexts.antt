-- The lines of branches that lose a local by a binding.
use Rattle.std.specs.Prelude.{ℕ, Bool, List, ◌++◌, cond, codes, decimal}

-- the line of a branch that loses a local by writing another, or writes both: the name of its state, its number, and the names of
-- the two
abbrev pub conflict_line : (state : List ℕ) (branch : ℕ) (written : List ℕ) (twice : Bool) (other : List ℕ) → List ℕ
conflict_line state branch written twice other =
    codes "no: "
    ++ (state ++ (codes "." ++ (decimal branch ++ (codes " writes " ++ (written
    ++ (cond twice (codes " and ") (codes " over ") ++ (other ++ codes "\n")))))))
