use Rattle.search_tables.specs.Walks.{lists_in}
use Rattle.search_tables.specs.Ways.{NoneBelow}
use Rattle.search_tables.proofs.least.least_cycle.Given as goal

abbrev pub invariant-roots : goal.invariant-roots
invariant-roots l = NoneBelow (lists_in l.edges) l.root
