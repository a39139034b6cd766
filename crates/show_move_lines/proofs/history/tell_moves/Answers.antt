use Rattle.std.proofs.Common.{refl}
use Rattle.fs_model.proofs.Lists.{same_there}
use Rattle.search_tables.specs.SearchTables.{Table}
use Rattle.search_tables.specs.declared.moves.Move.{Move}
use Rattle.show_fact_text.specs.View.{position_name_in}
use Rattle.show_move_lines.specs.MoveReplays.{turn_of_move}
use Rattle.show_move_lines.specs.MoveLines.{turn_lines, turns_lines}
use Rattle.show_move_lines.specs.View.{side_machines}
use Rattle.show_move_lines.proofs.Retold.{next_told}
use Rattle.show_move_lines.proofs.history.tell_moves.Goals as goal

pub loop-at-preserved : goal.loop-at-preserved
loop-at-preserved c =
    let m = side_machines c.args.m.now in
    let ps = c.args.m.now.pairing.now in
    let xs = c.args.moves.now in
    let i = c.loop-at.at-index in
    record {
      lines = next_told ps m xs i _ c.loop-at-test.true (same_there xs i _ _ c.loop-at-test.true) _ _ c.in_ok-tell_move.ensures.table (turns_lines ps m)
          (λ (T : Table) (x : Move). turn_lines (position_name_in m) m T x (turn_of_move ps m T x)) (λ S y ys. refl) _ _ _
          c.in_ok-tell_move.ensures.lines c.loop-at.invariant.lines;
      facts = c.in_ok-tell_move.ensures.facts;
    }
