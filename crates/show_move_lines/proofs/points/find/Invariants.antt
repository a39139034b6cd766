use Rattle.std.proofs.Common.{◌≡◌, drop}
use Rattle.fs_cut.specs.View.{point_of}
use Rattle.search_tables.specs.SearchTables.{node_target, target_from}
use Rattle.search_tables.specs.View.{table_in}
use Rattle.show_move_lines.proofs.points.find.Given as goal

abbrev pub invariant-loop-number : goal.invariant-loop-number
invariant-loop-number l = record {
  rest : target_from (point_of l.left) (point_of l.right) l.number (table_in (drop l.number l.nodes))
      ≡ node_target (table_in l.nodes) (point_of l.left) (point_of l.right);
}
