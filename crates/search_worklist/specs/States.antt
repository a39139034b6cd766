-- The state of a search.
use Rattle.std.specs.Prelude.{◌≡◌, ◌≢◌, ℕ, ◌+◌, ◌<◌, true, cond, is_none, List, length, None, Some, slice_get, sum_by}
use Rattle.std.specs.List.{AllByRecursion}
use Rattle.std.specs.BTreeSet.{BTreeSet, btree_set_len}
use Rattle.sym_facts.specs.Pairings.{IsFactOf}
use Rattle.search_tables.specs.SearchTables.{MachinePair, positions_of, Table, units}
use Rattle.search_tables.specs.Legal.{difference_in}
use Rattle.search_tables.specs.TableInvariants.{IsWellFormed}
use Rattle.search_waiting.specs.declared.item.Item.{Item}
use Rattle.search_places.specs.NodeRecords.{NodeRecord, node_records, table_of}
use Rattle.search_waiting.specs.ItemOrder.{item, waits}
use Rattle.search_worklist.specs.declared.state.State.{State}
use Rattle.search_places.specs.Moves.{most_moves}
use Rattle.search_worklist.specs.Waiting.{Arrives, IsWaiting}

abbrev pub records : State → List NodeRecord
records s = node_records s.entries.entries

abbrev pub table : State → Table
table s = table_of (records s)

-- what holds of nodes, of what waits and of the number of units between turns. The moves of a node that waits are not known
pub record Ready (m : MachinePair) (ls : List NodeRecord) (w : BTreeSet Item) (n : ℕ) : Type 0 where
  pub waiting : IsWaiting m ls (waits w)
  pub unfound : (i : ℕ) (l : NodeRecord) → slice_get ls i ≡ Some l → waits w (item i 0) ≡ true → l.moves ≡ None
  pub listed : (k : ℕ) (y : Item) → Arrives ls k y → (y.node < length ls) × (y.place ≢ 0)
  pub sized : n ≡ units (table_of ls)

abbrev pub IsReady : MachinePair → State → Type 0
IsReady m s = Ready m (records s) s.waiting s.units

-- what holds of a table that a legal list of moves makes, where no outputs differ
pub record IsMade (m : MachinePair) (T : Table) : Type 0 where
  pub formed : IsWellFormed m T
  pub facts : AllByRecursion (λ n. IsFactOf (positions_of m) n.fact) T
  pub agrees : difference_in m T ≡ None

-- a node whose mode is not found counts more than its moves
abbrev pub record_weight : NodeRecord → ℕ
record_weight l = cond (is_none l.moves) (most_moves + 1) 0

-- what is to be done before the table changes
abbrev pub work_of : List NodeRecord → BTreeSet Item → ℕ
work_of ls w = sum_by record_weight ls + btree_set_len w

abbrev pub work : State → ℕ
work s = work_of (records s) s.waiting
