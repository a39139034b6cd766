use Rattle.std.proofs.Common.{length, rules, arith}
use Rattle.hls_block_filling.specs.WaitingItems.{rows_in}
use Rattle.hls_block_filling.proofs.Counts.{not_all, are_all}
use Rattle.hls_block_filling.proofs.rows.all_placed.Goals as goal

pub returns-then-is_none : goal.returns-then-is_none
returns-then-is_none c = not_all (rows_in c.args.rows.now) (length c.args.table.now) c.loop-i.i
    (omega (arith, c.loop-i-test.true, c.requires.rows)) (search rules)

pub returns : goal.returns
returns c = are_all (rows_in c.args.rows.now) (length c.args.table.now) (λ j h. c.loop-i.invariant j (omega (arith, h, c.loop-i-test.false, c.requires.rows)))
