use Rattle.std.proofs.Common.{◌≡◌, length}
use Rattle.hls_block_filling.specs.Profiles.{graph_in}
use Rattle.hls_block_filling.specs.WaitingItems.{rows_in, AreTurned}
use Rattle.hls_block_filling.proofs.turn.turn_row.Given as goal

abbrev pub invariant-loop-k : goal.invariant-loop-k
invariant-loop-k l = (length l.waits ≡ length l.table) × AreTurned (graph_in l.table) (rows_in l.rows) l.row l.k l.waits
