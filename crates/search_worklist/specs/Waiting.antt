-- What is known of a table of which some items wait.
use Rattle.std.specs.Prelude.{◌≡◌, ℕ, suc, ◌<◌, Bool, true, false, List, length, map, Option, Some, slice_get, ◌⊎◌}
use Rattle.fs_cut.specs.Paths.{Point}
use Rattle.cert_bisimulation.specs.declared.mode.Mode.{Mode}
use Rattle.nf_terms.specs.Computed.{Done}
use Rattle.nf_rel.specs.Literals.{is_refuted}
use Rattle.sym_paths.specs.Execution.{Post, end_of}
use Rattle.sym_facts.specs.Entailment.{Missing, entails, is_nothing}
use Rattle.propagate.specs.Modes.{Found}
use Rattle.search_tables.specs.declared.moves.Move.{Move}
use Rattle.search_tables.specs.SearchTables.{MachinePair, SearchNode, Table, Known, node_target, PathPair, arrival}
use Rattle.search_tables.specs.Next.{mode_at, paths_in, move_by}
use Rattle.search_waiting.specs.declared.item.Item.{Item}
use Rattle.search_places.specs.NodeRecords.{NodeRecord, table_of}
use Rattle.search_waiting.specs.ItemOrder.{item}

-- the first node at two points is node k, and its fact is entailed
pub record IsEntailed (T : Table) (P Q : Point) (post : Post) (k : ℕ) : Type 0 where
  pub node : SearchNode
  pub target : node_target T P Q ≡ Known k node
  pub missing : Missing
  pub compared : entails post node.fact ≡ Done missing
  pub nothing : is_nothing missing ≡ true

-- an item is listed as arriving at node k
pub record Arrives (ls : List NodeRecord) (k : ℕ) (y : Item) : Type 0 where
  pub node_record : NodeRecord
  pub is_in : slice_get ls k ≡ Some node_record
  pub place : ℕ
  pub listed : slice_get node_record.arrivals place ≡ Some y

-- a post entails the fact of the first node at two points, where an item is listed
pub record ArrivesAt (ls : List NodeRecord) (P Q : Point) (post : Post) (y : Item) : Type 0 where
  pub is_open : is_refuted post.conditions ≡ false
  pub number : ℕ
  pub entailed : IsEntailed (table_of ls) P Q post number
  pub arrives : Arrives ls number y

-- a move keeps the table: what arrives is refuted, or entails the fact of its target, where its item is listed
pub record IsSettledMove (m : MachinePair) (ls : List NodeRecord) (n : SearchNode) (x : PathPair) (y : Item) : Type 0 where
  pub post : Post
  pub valued : arrival m n x ≡ Done post
  pub holds : (is_refuted post.conditions ≡ true) ⊎ ArrivesAt ls (end_of n.left x.left) (end_of n.right x.right) post y

-- the mode of node i is found, and each of its moves waits or is settled
pub record Rests (m : MachinePair) (ls : List NodeRecord) (waits : Item → Bool) (i : ℕ) (n : SearchNode)
    (moves : Option (List Move)) : Type 0 where
  pub mode : Mode
  pub found : mode_at m n ≡ Found mode
  pub listed : moves ≡ Some (map (move_by i) (paths_in m n mode))
  pub each : (p : ℕ) (x : PathPair) → slice_get (paths_in m n mode) p ≡ Some x
      → (waits (item i (suc p)) ≡ true) ⊎ IsSettledMove m ls n x (item i (suc p))

-- each node waits or rests, and what waits is of nodes
pub record IsWaiting (m : MachinePair) (ls : List NodeRecord) (waits : Item → Bool) : Type 0 where
  pub rests : (i : ℕ) (l : NodeRecord) → slice_get ls i ≡ Some l → waits (item i 0) ≡ false → Rests m ls waits i l.node l.moves
  pub in_table : (i p : ℕ) → waits (item i p) ≡ true → i < length ls
