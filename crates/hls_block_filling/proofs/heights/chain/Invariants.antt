use Rattle.std.proofs.Common.{◌≡◌}
use Rattle.std.specs.Prelude.{max, drop}
use Rattle.hls_block_filling.specs.Heights.{greatest}
use Rattle.hls_block_filling.proofs.heights.chain.Given as goal

abbrev pub invariant-loop-i : goal.invariant-loop-i
invariant-loop-i l = max l.chain (greatest (drop l.i l.heights)) ≡ greatest l.heights
