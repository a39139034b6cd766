use Rattle.std.proofs.Common.{◌≡◌, ℕ, ◌<◌, length}
use Rattle.std.specs.List.{slice_index_or}
use Rattle.hls_block_filling.specs.Profiles.{graph_in}
use Rattle.hls_block_filling.specs.WaitingItems.{none_placed, waits_below}
use Rattle.hls_block_filling.proofs.waits.first_waits.Given as goal

abbrev pub invariant-loop-j : goal.invariant-loop-j
invariant-loop-j l = (length l.waits.items ≡ l.j) × ((i : ℕ) → i < l.j → slice_index_or l.waits.items i 0 ≡ waits_below (graph_in l.table) none_placed 0 i i)
