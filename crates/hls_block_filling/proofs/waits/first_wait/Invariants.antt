use Rattle.std.proofs.Common.{◌≡◌, ◌≤◌}
use Rattle.hls_block_filling.specs.Profiles.{graph_in}
use Rattle.hls_block_filling.specs.WaitingItems.{none_placed, waits_below}
use Rattle.hls_block_filling.proofs.waits.first_wait.Given as goal

abbrev pub invariant-loop-i : goal.invariant-loop-i
invariant-loop-i l = (l.count ≡ waits_below (graph_in l.table) none_placed 0 l.j l.i) × (l.count ≤ l.i)
