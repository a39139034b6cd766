use Rattle.std.proofs.Common.{◌≡◌, length, ◌-◌}
use Rattle.hls_block_filling.specs.ItemUnits.{none_used}
use Rattle.hls_block_filling.specs.Filling.{row_filled}
use Rattle.hls_block_filling.specs.ItemUnits.{units_in}
use Rattle.hls_block_filling.specs.Profiles.{graph_in, units_of_uses}
use Rattle.hls_block_filling.specs.WaitingItems.{rows_in, AreWaiting, AreLow}
use Rattle.hls_block_filling.proofs.fill.fill_row.Given as goal

abbrev pub invariant-loop-i : goal.invariant-loop-i
invariant-loop-i l =
    (length l.rows ≡ length l.table) × (length l.waits ≡ length l.table)
    × AreWaiting (graph_in l.table) (rows_in l.rows) l.row l.waits
    × (row_filled (graph_in l.table) (units_in l.units) (length l.table - l.i) l.row (rows_in l.rows) (units_of_uses l.used)
    ≡ row_filled (graph_in l.table) (units_in l.units) (length l.table) l.row (rows_in l.initial.rows) none_used)
    × (AreLow (graph_in l.table) (rows_in l.initial.rows) l.row → AreLow (graph_in l.table) (rows_in l.rows) l.row)
