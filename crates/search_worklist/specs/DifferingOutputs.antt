-- The output that differs at a node.
use Rattle.std.specs.Prelude.{◌≡◌, ℕ, Option, Some, slice_get}
use Rattle.search_tables.specs.SearchTables.{MachinePair, SearchNode, Table}
use Rattle.search_tables.specs.Legal.{output_at}

-- node k has this as its first output whose terms differ
pub record OutputAt (m : MachinePair) (T : Table) (k : ℕ) (o : Option ℕ) : Type 0 where
  pub node : SearchNode
  pub is_in : slice_get T k ≡ Some node
  pub differs : o ≡ output_at m node
