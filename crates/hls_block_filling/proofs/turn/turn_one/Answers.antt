use Rattle.std.proofs.Common.{sym}
use Rattle.hls_block_filling.specs.WaitingItems.{rows_in}
use Rattle.hls_block_filling.proofs.Turns.{some_turn, turned_on, turned_off}
use Rattle.hls_block_filling.proofs.turn.turn_one.Goals as goal

pub release-requires-clause-held : goal.release-requires-clause-held
release-requires-clause-held c = λ j h e. some_turn c.args.table.now
    (rows_in c.args.rows.now) c.args.row c.args.k j c.args.waits.now c.requires.low c.requires.in_range (sym c.if-is_in.ensures) c.requires.turned h e

pub returns-then-is_in-clause-turned : goal.returns-then-is_in-clause-turned
returns-then-is_in-clause-turned c = turned_on c.args.table.now
    (rows_in c.args.rows.now) c.args.row c.args.k c.args.waits.now c.release.new.waits c.requires.low c.requires.in_range c.requires.waits
    (sym c.if-is_in.ensures) c.requires.turned c.release.ensures

pub returns-else-is_in-clause-turned : goal.returns-else-is_in-clause-turned
returns-else-is_in-clause-turned c = turned_off c.args.table.now
    (rows_in c.args.rows.now) c.args.row c.args.k c.args.waits.now c.requires.low c.requires.in_range (sym c.if-is_in.ensures) c.requires.turned
