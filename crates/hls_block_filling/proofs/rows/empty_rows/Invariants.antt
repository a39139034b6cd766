use Rattle.std.proofs.Common.{◌≡◌, ℕ, None, length}
use Rattle.std.specs.List.{slice_index_or}
use Rattle.hls_block_filling.proofs.rows.empty_rows.Given as goal

abbrev pub invariant-none : goal.invariant-none
invariant-none l = ((i : ℕ) → slice_index_or l.rows.items i None ≡ None) × (length l.rows.items ≡ l.counter)
