use Rattle.std.proofs.Common.{sym}
use Rattle.hls_block_filling.specs.ItemUnits.{units_in}
use Rattle.hls_block_filling.specs.Profiles.{graph_in}
use Rattle.hls_block_filling.specs.WaitingItems.{rows_in}
use Rattle.hls_block_filling.proofs.Counts.{next_row, no_row}
use Rattle.hls_block_filling.proofs.rows.fill_next.Goals as goal

pub returns-then-all_placed-clause-filled : goal.returns-then-all_placed-clause-filled
returns-then-all_placed-clause-filled c = λ n. no_row (graph_in c.args.table.now) (units_in c.args.units.now) n c.args.row (rows_in c.args.rows.now)
    (sym c.if-all_placed.ensures)

pub returns-clause-filled : goal.returns-clause-filled
returns-clause-filled c = λ n. next_row (graph_in c.args.table.now) (units_in c.args.units.now) n c.args.row (rows_in c.args.rows.now)
    (rows_in c.fill_row.new.rows) (sym c.if-all_placed.ensures) c.fill_row.ensures.filled
