use Rattle.std.proofs.Common.{List, sym, subst, map}
use Rattle.std.specs.List.{All}
use Rattle.std.proofs.lemmas.List.Elements.{All-push}
use Rattle.hls_block_filling.specs.Plans.{filled_in}
use Rattle.hls_block_filling.specs.SourceRows.{placed_in_block}
use Rattle.hls_sched.specs.declared.moves.Move.{Move}
use Rattle.hls_sched.specs.RowMoves.{IsMoveAmong}
use Rattle.hls_sched.proofs.Rows.{moves_more, moves_end}
use Rattle.hls_sched.proofs.moves.add_moves.Goals as goal

pub loop-row-preserved : goal.loop-row-preserved
loop-row-preserved c =
    let x = c.in_ok-row_in_state.field-0 in
    record {
      moves = λ p. moves_more p c.args.block.now.exit.0 c.args.block.now.states.items
          (filled_in c.args.plan.now) c.loop-row.row x c.loop-row.out.items c.push.new.self.items _ c.loop-row-test.true c.requires.plan.no_more
          (c.in_ok-row_in_state.ensures.row p) c.in_ok-push.ensures.items (c.loop-row.invariant.moves p);
      among = λ count all out before. subst (λ (xs : List Move). All (IsMoveAmong count) xs) (sym {A = List Move} c.in_ok-push.ensures.items)
          (All-push (IsMoveAmong count) c.loop-row.out.items x (c.loop-row.invariant.among count all out before)
          (c.in_ok-row_in_state.ensures.among count all out));
    }

pub returns-clause-moves : goal.returns-clause-moves
returns-clause-moves c = λ p.
    moves_end p c.args.block.now.exit.0 (map (λ q. q.0) c.args.block.now.states.items)
    (placed_in_block p (map (λ q. q.0) c.args.block.now.states.items) (filled_in c.args.plan.now)) c.args.plan.now.count c.loop-row.row c.loop-row.out.items _
    c.loop-row-test.false (c.loop-row.invariant.moves p)
