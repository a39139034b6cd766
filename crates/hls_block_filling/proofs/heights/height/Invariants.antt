use Rattle.std.proofs.Common.{◌≡◌, ◌+◌, ◌<◌, length}
use Rattle.hls_block_filling.specs.Profiles.{height_upto}
use Rattle.hls_block_filling.proofs.heights.height.Given as goal

abbrev pub invariant-loop-j : goal.invariant-loop-j
invariant-loop-j l = (l.best ≡ height_upto l.effects l.heights l.item l.j) × (l.best + l.item < length l.effects) × (l.item < l.j)
