use Rattle.std.proofs.Common.{◌≡◌, ◌++◌, drop}
use Rattle.search_tables.specs.View.{table_in}
use Rattle.show_move_lines.specs.MoveReplays.{AreOf}
use Rattle.show_move_lines.specs.MoveLines.{turns_lines}
use Rattle.show_move_lines.specs.View.{side_machines}
use Rattle.show_move_lines.proofs.history.tell_moves.Given as goal

abbrev pub invariant-loop-at : goal.invariant-loop-at
invariant-loop-at l = record {
  lines : l.out.items ++ turns_lines l.m.pairing.now (side_machines l.m) (table_in l.nodes.items) (drop l.at-index l.moves) ≡ l.fn.out.items
      ++ turns_lines l.m.pairing.now (side_machines l.m) (table_in l.fn.nodes.items) l.moves;
  facts : AreOf l.m.pairing.now (table_in l.nodes.items);
}
