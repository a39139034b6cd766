use Rattle.std.proofs.Common.{refl}
use Rattle.fs_model.proofs.Lists.{same_there}
use Rattle.search_tables.specs.SearchTables.{Table}
use Rattle.search_tables.specs.declared.moves.Move.{Move}
use Rattle.show_move_lines.specs.MoveReplays.{turn_of_move}
use Rattle.show_move_lines.specs.View.{side_machines}
use Rattle.show_move_lines.proofs.Retold.{next_told, next_made}
use Rattle.show_search_views.specs.SearchPictures.{turn_edge, turns_edges}
use Rattle.show_search_views.proofs.edges.draw_moves.Goals as goal

pub loop-at-preserved : goal.loop-at-preserved
loop-at-preserved c =
    let m = side_machines c.args.m.now in
    let ps = c.args.m.now.pairing.now in
    let xs = c.args.moves.now in
    let i = c.loop-at.at-index in
    let is = same_there xs i _ _ c.loop-at-test.true in
    let made = c.in_ok-draw_move.ensures.table in
    record {
      edges = next_told ps m xs i _ c.loop-at-test.true is _ _ made (turns_edges ps m)
          (λ (T : Table) (x : Move). turn_edge m T x (turn_of_move ps m T x)) (λ S y ys. refl) _ _ _ c.in_ok-draw_move.ensures.edge
          c.loop-at.invariant.edges;
      table = next_made ps m xs i _ c.loop-at-test.true is _ _ made _ c.loop-at.invariant.table;
      facts = c.in_ok-draw_move.ensures.facts;
    }
