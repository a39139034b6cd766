use Rattle.std.proofs.lemmas.Result.{on_ok_weaker}
use Rattle.search_tables.specs.View.{table_in}
use Rattle.show_move_lines.specs.View.{turn_in}
use Rattle.show_move_lines.proofs.Facts.{turned_to}
use Rattle.show_search_views.proofs.edges.draw_move.Goals as goal

pub returns-clause-facts : goal.returns-clause-facts
returns-clause-facts c =
    on_ok_weaker c.make_told.result
    (turned_to c.args.m.now.pairing.now (table_in c.args.nodes.now.items) (table_in c.make_told.new.nodes.items) (turn_in c.in_ok-turn.turn)
    c.requires c.in_ok-turn.ensures.fact)
    c.make_told.ensures.table
