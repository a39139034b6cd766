use Rattle.std.proofs.Common.{◌≡◌, ◌++◌, drop}
use Rattle.search_tables.specs.View.{table_in}
use Rattle.show_move_lines.specs.View.{side_machines}
use Rattle.show_search_views.specs.SearchPictures.{table_node_lines}
use Rattle.show_search_views.proofs.table_nodes.write_table_nodes.Given as goal

abbrev pub invariant-loop-number : goal.invariant-loop-number
invariant-loop-number l =
    l.out.items ++ table_node_lines (side_machines l.m) l.marks l.number (table_in (drop l.number l.nodes)) ≡ l.fn.out.items
    ++ table_node_lines (side_machines l.m) l.marks 0 (table_in l.nodes)
