use Rattle.std.proofs.Common.{◌∙◌, sym, ap}
use Rattle.fs_cut.specs.View.{point_of}
use Rattle.search_tables.specs.View.{search_node_in, table_in}
use Rattle.show_move_lines.specs.View.{target_in}
use Rattle.show_move_lines.proofs.Facts.{known_fact}
use Rattle.show_move_lines.proofs.turns.turn_at.Goals as goal

pub weaken-requires : goal.weaken-requires
weaken-requires c =
    let s = c.in-Some.target in
    known_fact c.args.p.now (table_in c.args.nodes.now) (point_of c.args.left)
    (point_of c.args.right) s.number (search_node_in s.node.now) c.requires (sym c.find.ensures ∙ ap target_in c.in-Some.is)
