use Rattle.std.proofs.Common.{◌≡◌, map, drop}
use Rattle.fs_model.specs.View.{branch_of}
use Rattle.hls_block_filling.specs.ItemUnits.{units_in}
use Rattle.hls_block_filling.specs.Over.{over_among}
use Rattle.hls_block_filling.proofs.over.over_among.Given as goal

abbrev pub invariant-loop-branch : goal.invariant-loop-branch
invariant-loop-branch l = over_among (units_in l.units) (map branch_of (drop l.branch-index l.branches))
    ≡ over_among (units_in l.units) (map branch_of l.branches)
