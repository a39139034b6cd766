-- Turns of a search, each at the least item that waits.
use Rattle.std.specs.Prelude.{◌≡◌, ℕ, suc, ◌<◌, List, Option, Some, None, slice_get}
use Rattle.cert_bisimulation.specs.declared.mode.Mode.{Mode}
use Rattle.nf_terms.specs.declared.stop.NfStop.{NfStop}
use Rattle.nf_terms.specs.declared.stop.NfStop.TheVariants as stop
use Rattle.propagate.specs.Modes.{Found}
use Rattle.search_tables.specs.declared.moves.Move.{Move}
use Rattle.search_tables.specs.declared.outcome.Obstacle.{Obstacle}
use Rattle.search_tables.specs.declared.outcome.Obstacle.TheVariants as obstacle
use Rattle.search_tables.specs.SearchTables.{MachinePair, Table, units}
use Rattle.search_tables.specs.Next.{mode_at, Change, next_move}
use Rattle.search_waiting.specs.declared.item.Item.{Item}
use Rattle.search_places.specs.NodeRecords.{NodeRecord}
use Rattle.search_worklist.specs.declared.state.State.{State}
use Rattle.search_worklist.specs.declared.turns.Step.{Step}
use Rattle.search_worklist.specs.declared.turns.Step.TheVariants as step
use Rattle.search_worklist.specs.SearchEnds.{EndsSo}
use Rattle.search_worklist.specs.NodeUpdates.{change_table}
use Rattle.search_worklist.specs.States.{table, IsReady, work}

-- a step is what is next, in a table in which no outputs differ
abbrev pub IsNext : MachinePair → Table → Step → Type 0
IsNext m T step.Closed = EndsSo m T None
IsNext m T (step.Stops o) = EndsSo m T (Some o)
IsNext m T (step.Changes at c) = (next_move m T ≡ Change at (change_table T c)) × (c.units ≡ units (change_table T c))

-- a turn finds what is next, or leaves less to do
abbrev pub FindsNext : MachinePair → State → State → Option Step → Type 0
FindsNext m s t None = work t < work s
FindsNext m s t (Some x) = IsNext m (table s) x

-- a turn that keeps the table
pub record IsTurned (m : MachinePair) (s t : State) (o : Option Step) : Type 0 where
  pub ready : IsReady m t
  pub same : table t ≡ table s
  pub finds : FindsNext m s t o

-- the obstacle of an event
abbrev pub IsObstacleAt : Move → NfStop → Obstacle → Type 0
IsObstacleAt at (stop.Wide left right) o = o ≡ obstacle.Wide at
IsObstacleAt at (stop.Large units depth) o = o ≡ obstacle.Large at
IsObstacleAt at stop.NoMemory o = ⊥

-- node i has this mode
pub record ModeFound (m : MachinePair) (ls : List NodeRecord) (i : ℕ) (x : Mode) : Type 0 where
  pub node_record : NodeRecord
  pub is_in : slice_get ls i ≡ Some node_record
  pub found : mode_at m node_record.node ≡ Found x

-- an item's move, in the mode of its node
pub record IsMoveAt (ls : List NodeRecord) (y : Item) (at : Move) : Type 0 where
  pub node_record : NodeRecord
  pub is_in : slice_get ls y.node ≡ Some node_record
  pub moves : List Move
  pub known : node_record.moves ≡ Some moves
  pub number : ℕ
  pub place : y.place ≡ suc number
  pub listed : slice_get moves number ≡ Some at

-- an item has no move in the mode of its node
abbrev pub NoMoveAt : List NodeRecord → Item → Type 0
NoMoveAt ls y = (l : NodeRecord) (xs : List Move) (p : ℕ) → slice_get ls y.node ≡ Some l → l.moves ≡ Some xs → y.place ≡ suc p
    → slice_get xs p ≡ None
