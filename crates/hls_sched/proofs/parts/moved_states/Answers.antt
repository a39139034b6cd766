use Rattle.std.proofs.Common.{arith, length, map}
use Rattle.fs_model.specs.View.{source_of}
use Rattle.hls_block_filling.specs.SourceRows.{first_row_effect}
use Rattle.hls_block_filling.specs.Sources.{states_by}
use Rattle.hls_sched.specs.RowMoves.{move_of}
use Rattle.hls_sched.proofs.ByStates.{states_more}
use Rattle.hls_sched.proofs.parts.moved_states.Goals as goal

pub loop-q-preserved : goal.loop-q-preserved
loop-q-preserved c =
    let p = source_of c.args.parts.now in
    states_more (states_by p c.args.m.now (first_row_effect (map (move_of p) c.args.moves.now)))
    (length c.args.m.now.states) c.loop-q.q c.loop-q.out.items c.add_state.new.out.items _
    (omega (arith, c.loop-q-test.true, c.state_count-q-end.ensures.count)) c.in_ok-add_state.ensures c.loop-q.invariant
