-- Obstacles: where a legal list of moves ends without a certificate.
use Rattle.std.specs.Prelude.{◌≡◌, ℕ, List, Some, None}
use Rattle.fs_model.specs.declared.sides.Side.{Side}
use Rattle.search_tables.specs.declared.moves.Move.{Move}
use Rattle.search_tables.specs.declared.outcome.Budget.{Budget}
use Rattle.search_tables.specs.SearchTables.{MachinePair, Table, WideEvent, LargeEvent}
use Rattle.search_tables.specs.Next.{Stop, Excess, next_move, IsClosed}
use Rattle.search_tables.specs.Legal.{difference_in, Makes}
use Rattle.search_tables.specs.LoneMoves.{Spins}

pub data Obstacle : Type 0 where
  Stuck : (node output : ℕ) → Obstacle
  Spin : Side → (cycle : List ℕ) → Obstacle
  Wide : Move → Obstacle
  Large : Move → Obstacle
  Exhausted : Move → Budget → Obstacle

-- what a table has that no certificate is made of. All but the first need that no outputs differ
abbrev pub StandsIn : MachinePair → Table → Obstacle → Type 0
StandsIn m T (Stuck node output) = difference_in m T ≡ Some (record { node = node; output = output })
StandsIn m T (Spin d cycle) = (difference_in m T ≡ None) × IsClosed m T × Spins m T d cycle
StandsIn m T (Wide at) = (difference_in m T ≡ None) × (left : ℕ) × (right : ℕ) × (next_move m T ≡ Stop at (WideEvent left right))
StandsIn m T (Large at) = (difference_in m T ≡ None) × (units : ℕ) × (depth : ℕ)
    × (next_move m T ≡ Stop at (LargeEvent units depth))
StandsIn m T (Exhausted at what) = (difference_in m T ≡ None) × (next_move m T ≡ Excess at what)

-- a legal list of moves makes a table with this obstacle
pub record IsObstacle (m : MachinePair) (moves : List Move) (o : Obstacle) : Type 0 where
  pub table : Table
  pub makes : Makes m moves table
  pub stands : StandsIn m table o
