use Rattle.std.proofs.Common.{◌≡◌, take}
use Rattle.std.specs.Prelude.{map}
use Rattle.fs_model.specs.View.{source_transition_of}
use Rattle.hls_sched.proofs.copies.copied_transitions.Given as goal

abbrev pub invariant-loop-line : goal.invariant-loop-line
invariant-loop-line l = map source_transition_of l.out.items ≡ map source_transition_of (take l.line-index l.lines)
