use Rattle.std.proofs.Common.{◌≡◌, length}
use Rattle.hls_block_filling.specs.Filling.{highest_number, may_stand}
use Rattle.hls_block_filling.specs.ItemUnits.{units_in}
use Rattle.hls_block_filling.specs.Profiles.{graph_in, units_of_uses}
use Rattle.hls_block_filling.specs.WaitingItems.{rows_in, IsBelow}
use Rattle.hls_block_filling.proofs.fill.next_item.Given as goal

abbrev pub invariant-loop-j : goal.invariant-loop-j
invariant-loop-j l =
    (l.best ≡ highest_number (may_stand (graph_in l.table) (units_in l.units) (rows_in l.rows) l.row (units_of_uses l.used)) (graph_in l.table).height l.j)
    × IsBelow (length l.table) l.best
