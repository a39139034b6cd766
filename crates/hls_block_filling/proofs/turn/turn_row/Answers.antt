use Rattle.std.proofs.Common.{◌≡◌, ℕ, subst, arith, length}
use Rattle.hls_block_filling.specs.Profiles.{graph_in}
use Rattle.hls_block_filling.specs.WaitingItems.{rows_in, AreTurned}
use Rattle.hls_block_filling.proofs.Turns.{before_turn, after_turn}
use Rattle.hls_block_filling.proofs.turn.turn_row.Goals as goal

pub loop-k-init : goal.loop-k-init
loop-k-init c = (c.requires.waits, before_turn (graph_in c.args.table.now) (rows_in c.args.rows.now) c.args.row c.args.waits.now c.requires.waiting)

pub returns-clause-waiting : goal.returns-clause-waiting
returns-clause-waiting c =
    let e : c.loop-k.k ≡ length c.args.table.now = omega (arith, c.loop-k-test.false, c.loop-k.auto.k-end) in
    after_turn (graph_in c.args.table.now) (rows_in c.args.rows.now) c.args.row c.loop-k.waits
    (subst (λ (k : ℕ). AreTurned (graph_in c.args.table.now) (rows_in c.args.rows.now) c.args.row k c.loop-k.waits) e c.loop-k.invariant.1)
