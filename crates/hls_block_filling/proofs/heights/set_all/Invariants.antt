use Rattle.std.proofs.Common.{◌≡◌, ◌-◌, length}
use Rattle.hls_block_filling.specs.KnownHeights.{AreHeights, AreLowHeights}
use Rattle.hls_block_filling.proofs.heights.set_all.Given as goal

abbrev pub invariant-loop-done : goal.invariant-loop-done
invariant-loop-done l =
    (length l.heights ≡ length l.effects)
    × AreHeights l.effects (length l.effects - l.done) l.heights × AreLowHeights (length l.effects) (length l.effects - l.done) l.heights
