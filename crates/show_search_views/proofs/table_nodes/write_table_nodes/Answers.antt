use Rattle.show_move_lines.specs.View.{side_machines}
use Rattle.show_search_views.proofs.Drawn.{next_drawn}
use Rattle.show_search_views.proofs.table_nodes.write_table_nodes.Goals as goal

pub loop-number-preserved : goal.loop-number-preserved
loop-number-preserved c =
    next_drawn (side_machines c.args.m.now) c.args.marks.now c.args.nodes.now c.loop-number.number c.index-nodes-number.result c.loop-number-test.true
    c.index-nodes-number.is _ _ _ c.in_ok-write_table_node.ensures c.loop-number.invariant
