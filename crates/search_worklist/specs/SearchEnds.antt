-- How the moves of a search end.
use Rattle.std.specs.Prelude.{◌≡◌, Option, Some, None}
use Rattle.std.specs.List.{AllByRecursion}
use Rattle.sym_facts.specs.Pairings.{IsFactOf}
use Rattle.search_tables.specs.declared.outcome.Obstacle.{Obstacle}
use Rattle.search_tables.specs.SearchTables.{MachinePair, Table, positions_of}
use Rattle.search_tables.specs.Next.{IsClosed}
use Rattle.search_tables.specs.Legal.{Makes, difference_in}
use Rattle.search_tables.specs.Obstacles.{StandsIn}
use Rattle.search_tables.specs.View.{table_in, obstacle_in}
use Rattle.search_worklist.specs.declared.ends.Ended.{Ended}

-- what stands in a table where the moves end so: an obstacle, or else it is closed and no outputs differ
abbrev pub EndsSo : MachinePair → Table → Option Obstacle → Type 0
EndsSo m T None = IsClosed m T × (difference_in m T ≡ None)
EndsSo m T (Some o) = StandsIn m T (obstacle_in o)

-- a legal list of moves makes a table, whose facts are of the pairing, and the moves end so
pub record IsEnded (m : MachinePair) (e : Ended) : Type 0 where
  pub makes : Makes m e.moves.items (table_in e.nodes.items)
  pub facts : AllByRecursion (λ n. IsFactOf (positions_of m) n.fact) (table_in e.nodes.items)
  pub ends : EndsSo m (table_in e.nodes.items) e.obstacle
