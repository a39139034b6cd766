-- The lines of what is told of schedules.
use Rattle.std.specs.Prelude.{ℕ, List, ◌++◌, codes, decimal}

-- what is told of a basic block: the name of its first state, its length before and now, and its chain
abbrev pub report_line : (first : List ℕ) (before after chain : ℕ) → List ℕ
report_line first before after chain =
    codes "# "
    ++ (first
    ++ (codes ": "
    ++ (decimal before ++ (codes " to " ++ (decimal after ++ (codes ", chain " ++ (decimal chain ++ codes "\n")))))))
