-- Where nodes stand, and what changes of them.
use Rattle.std.specs.Prelude.{◌≡◌, ℕ, List, [], ◌∷◌, ◌++◌, length, Option, Some, None, slice_get, slice_set, ◌⊎◌}
use Rattle.fs_cut.specs.Paths.{Point}
use Rattle.sym_facts.specs.Facts.{Fact}
use Rattle.search_tables.specs.declared.moves.Move.{Move}
use Rattle.search_tables.specs.SearchTables.{Unknown, Known, node_target}
use Rattle.search_waiting.specs.declared.item.Item.{Item}
use Rattle.search_places.specs.NodeRecords.{NodeRecord, node_with_fact, table_of}

-- the first node at two points, by its number
abbrev pub StandsAt : List NodeRecord → Point → Point → Option ℕ → Type 0
StandsAt ls P Q None = node_target (table_of ls) P Q ≡ Unknown
StandsAt ls P Q (Some k) = (l : NodeRecord) × (slice_get ls k ≡ Some l) × (node_target (table_of ls) P Q ≡ Known k l.node)

-- a node of which nothing but the fact is known
abbrev pub fresh : Point → Point → Fact → NodeRecord
fresh P Q f = record { node = node_with_fact P Q f; moves = None; arrivals = [] }

-- a node is made, and goes last
pub record PutsLast (ls ls' : List NodeRecord) (P Q : Point) (f : Fact) (k : ℕ) (ys : List Item) : Type 0 where
  pub target : node_target (table_of ls) P Q ≡ Unknown
  pub number : k ≡ length ls
  pub last : ls' ≡ ls ++ fresh P Q f ∷ []
  pub none : ys ≡ []

-- node k gets another fact; the items that arrived at it are handed out
pub record PutsAgain (ls ls' : List NodeRecord) (P Q : Point) (f : Fact) (k : ℕ) (ys : List Item) : Type 0 where
  pub old : NodeRecord
  pub is_in : slice_get ls k ≡ Some old
  pub target : node_target (table_of ls) P Q ≡ Known k old.node
  pub set : ls' ≡ slice_set ls k (fresh old.node.left old.node.right f)
  pub woken : ys ≡ old.arrivals

abbrev pub PutsNode : (ls ls' : List NodeRecord) (P Q : Point) (f : Fact) (k : ℕ) (ys : List Item) → Type 0
PutsNode ls ls' P Q f k ys = PutsLast ls ls' P Q f k ys ⊎ PutsAgain ls ls' P Q f k ys

-- the moves of node k are set
pub record SetsMoves (ls ls' : List NodeRecord) (k : ℕ) (xs : List Move) : Type 0 where
  pub old : NodeRecord
  pub is_in : slice_get ls k ≡ Some old
  pub set : ls' ≡ slice_set ls k (record { node = old.node; moves = Some xs; arrivals = old.arrivals })

-- an item is listed as arriving at node k
pub record ListsArrival (ls ls' : List NodeRecord) (k : ℕ) (y : Item) : Type 0 where
  pub old : NodeRecord
  pub is_in : slice_get ls k ≡ Some old
  pub set : ls' ≡ slice_set ls k (record { node = old.node; moves = old.moves; arrivals = old.arrivals ++ y ∷ [] })
