-- What is answered where the moves of a search end.
use Rattle.std.specs.Global.{Global}
use Rattle.std.specs.Prelude.{◌≡◌, Option, Vec}
use Rattle.search_tables.specs.declared.moves.Move.{Move}
use Rattle.search_tables.specs.declared.outcome.Obstacle.{Obstacle}
use Rattle.search_tables.specs.SearchTables.{Table}
use Rattle.search_tables.specs.View.{table_in}
use Rattle.search_worklist.specs.declared.ends.Ended.{Ended}

-- a table, the moves that made it, and how they end
pub record IsEndedWith (T : Table) (made_by : Vec Move Global) (so : Option Obstacle) (e : Ended) : Type 0 where
  pub nodes : table_in e.nodes.items ≡ T
  pub moves : e.moves ≡ made_by
  pub ends : e.obstacle ≡ so
