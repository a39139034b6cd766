use Rattle.std.proofs.Common.{◌≡◌, length, ◌-◌}
use Rattle.hls_block_filling.specs.Filling.{filled_from, filling_of}
use Rattle.hls_block_filling.specs.ItemUnits.{units_in}
use Rattle.hls_block_filling.specs.Profiles.{graph_in}
use Rattle.hls_block_filling.specs.WaitingItems.{rows_in, AreWaiting, AreLow}
use Rattle.hls_block_filling.proofs.rows.fill.Given as goal

abbrev pub invariant-loop-r : goal.invariant-loop-r
invariant-loop-r l =
    (length l.rows ≡ length l.table) × (length l.waits ≡ length l.table)
    × AreWaiting (graph_in l.table) (rows_in l.rows) l.r l.waits
    × AreLow (graph_in l.table) (rows_in l.rows) l.r
    × (filled_from (graph_in l.table) (units_in l.units) (length l.table - l.r) l.r (rows_in l.rows) ≡ filling_of (graph_in l.table) (units_in l.units))
