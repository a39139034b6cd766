use Rattle.std.proofs.Common.{◌≡◌, take, map}
use Rattle.fs_model.specs.View.{named_assignment, source_of}
use Rattle.hls_sched.specs.RowMoves.{joined_items}
use Rattle.hls_sched.proofs.parts.joined_items.Given as goal

abbrev pub invariant-loop-state : goal.invariant-loop-state
invariant-loop-state l = map named_assignment l.out.items ≡ joined_items (source_of l.parts) (take l.state-index l.items)
