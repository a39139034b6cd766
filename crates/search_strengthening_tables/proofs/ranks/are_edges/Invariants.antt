use Rattle.std.proofs.Common.{◌≡◌, drop}
use Rattle.search_tables.specs.Walks.{lists_in}
use Rattle.search_strengthening_tables.specs.Edges.{are_edges}
use Rattle.search_strengthening_tables.proofs.ranks.are_edges.Given as goal

abbrev pub invariant-loop-targets : goal.invariant-loop-targets
invariant-loop-targets l = are_edges l.count (lists_in (drop l.targets-index l.edges)) ≡ are_edges l.count (lists_in l.edges)
