use Rattle.std.proofs.Common.{◌≡◌, ℕ, ◌<◌, false}
use Rattle.std.specs.Option.{is_none}
use Rattle.hls_block_filling.specs.WaitingItems.{rows_in}
use Rattle.hls_block_filling.proofs.rows.all_placed.Given as goal

abbrev pub invariant-loop-i : goal.invariant-loop-i
invariant-loop-i l = (j : ℕ) → j < l.i → is_none (rows_in l.rows j) ≡ false
