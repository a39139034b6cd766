use Rattle.std.proofs.Common.{◌≡◌, length}
use Rattle.hls_block_filling.proofs.heights.zeros.Given as goal

abbrev pub invariant-zeros : goal.invariant-zeros
invariant-zeros l = length l.out.items ≡ l.counter
