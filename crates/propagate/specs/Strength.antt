-- How much a fact says.
use Rattle.std.specs.Prelude.{ℕ, ◌+◌, cond, is_none, List, [], ◌∷◌, length}
use Rattle.sym_facts.specs.Facts.{FactPosition, Fact}

-- how many positions have an equation
abbrev pub with_equation_count : List FactPosition → ℕ
with_equation_count [] = 0
with_equation_count (p ∷ ps) = cond (is_none p.equation) 0 1 + with_equation_count ps

-- the equations and the literals of a fact
abbrev pub strength : Fact → ℕ
strength f = with_equation_count f.positions + length f.literals
