-- The answers of src/ as plain data.
use Rattle.propagate_equations.specs.declared.ties.Freed.{Freed as CodeFreed}
use Rattle.propagate_equations.specs.Ties.{Freed}
use Rattle.propagate_equations.specs.declared.splits.Split.{Split as CodeSplit}
use Rattle.propagate_equations.specs.declared.solutions.Solution.{Solution as CodeSolution}
use Rattle.propagate_equations.specs.Equations.{Split, Solution}

-- a freed position with the form that it had
abbrev pub freed_in : CodeFreed → Freed
freed_in f = record { pos = f.pos; old = f.old.now }

-- a split, and a solution
abbrev pub split_in : CodeSplit → Split
split_in x = record { symbol = x.symbol; positive = x.positive; rest = x.rest }

abbrev pub solution_in : CodeSolution → Solution
solution_in x = record { symbol = x.symbol; meaning = x.meaning }
