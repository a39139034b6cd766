use Rattle.std.proofs.Common.{◌≡◌, ◌++◌, drop}
use Rattle.search_tables.specs.View.{table_in}
use Rattle.show_move_lines.specs.MoveReplays.{with_turns, AreOf}
use Rattle.show_move_lines.specs.View.{side_machines}
use Rattle.show_search_views.specs.SearchPictures.{turns_edges}
use Rattle.show_search_views.proofs.edges.draw_moves.Given as goal

abbrev pub invariant-loop-at : goal.invariant-loop-at
invariant-loop-at l = record {
  edges : l.out.items ++ turns_edges l.m.pairing.now (side_machines l.m) (table_in l.nodes.items) (drop l.at-index l.moves) ≡ l.fn.out.items
      ++ turns_edges l.m.pairing.now (side_machines l.m) (table_in l.fn.nodes.items) l.moves;
  table : with_turns l.m.pairing.now (side_machines l.m) (table_in l.nodes.items) (drop l.at-index l.moves)
      ≡ with_turns l.m.pairing.now (side_machines l.m) (table_in l.fn.nodes.items) l.moves;
  facts : AreOf l.m.pairing.now (table_in l.nodes.items);
}
