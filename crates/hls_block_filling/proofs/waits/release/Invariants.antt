use Rattle.std.proofs.Common.{◌≡◌, ℕ, ◌+◌, ◌<◌, ◌≤◌, length}
use Rattle.std.specs.Prelude.{cond}
use Rattle.std.specs.List.{slice_index_or}
use Rattle.hls_block_filling.specs.WaitingItems.{holds_back}
use Rattle.hls_block_filling.proofs.waits.release.Given as goal

abbrev pub invariant-loop-j : goal.invariant-loop-j
invariant-loop-j l =
    (length l.waits ≡ length l.table)
    × ((i : ℕ) → i < l.j → i < length l.table → slice_index_or l.waits i 0 + cond (holds_back l.table l.edge_kind l.k i) 1 0
    ≡ slice_index_or l.initial.waits i 0)
    × ((i : ℕ) → l.j ≤ i → i < length l.table → slice_index_or l.waits i 0 ≡ slice_index_or l.initial.waits i 0)
    × (l.k < l.j)
