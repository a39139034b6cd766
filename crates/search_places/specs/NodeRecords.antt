-- Nodes with what is kept of them, as plain data.
use Rattle.std.specs.Prelude.{List, map, Option, option_map}
use Rattle.fs_cut.specs.Paths.{Point}
use Rattle.fs_cut.specs.View.{point_of}
use Rattle.sym_facts.specs.Facts.{Fact}
use Rattle.search_tables.specs.declared.moves.Move.{Move}
use Rattle.search_tables.specs.SearchTables.{SearchNode, Table}
use Rattle.search_tables.specs.declared.pairs.PointPair.{PointPair}
use Rattle.search_waiting.specs.declared.item.Item.{Item}
use Rattle.search_places.specs.declared.node_state.NodeState.{NodeState}

-- a node, the moves of its mode once that is found, and the items that arrive at it
pub record NodeRecord : Type 0 where
  pub node : SearchNode
  pub moves : Option (List Move)
  pub arrivals : List Item

abbrev pub node_with_fact : Point → Point → Fact → SearchNode
node_with_fact P Q f = record { left = P; right = Q; fact = f }

abbrev pub record_of_node : PointPair × NodeState → NodeRecord
record_of_node e = record {
  node = node_with_fact (point_of e.0.left) (point_of e.0.right) e.1.fact;
  moves = option_map (λ v. v.items) e.1.moves;
  arrivals = e.1.arrivals.items;
}

abbrev pub node_records : List (PointPair × NodeState) → List NodeRecord
node_records es = map record_of_node es

-- the nodes alone
abbrev pub table_of : List NodeRecord → Table
table_of ls = map (λ l. l.node) ls
