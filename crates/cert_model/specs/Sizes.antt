-- How large the nodes of a certificate are.
use Rattle.std.specs.Prelude.{ℕ, ◌+◌, List, [], ◌∷◌}
use Rattle.cert_bisimulation.specs.Tables.{Node}
use Rattle.sym_facts.specs.Facts.{Fact, size_of_fact}

-- how many units the facts of nodes have
abbrev pub units_of : List (Node Fact) → ℕ
units_of [] = 0
units_of (n ∷ ns) = size_of_fact n.fact + units_of ns
