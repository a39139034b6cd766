use Rattle.std.proofs.Common.{◌≡◌, ◌++◌, take}
use Rattle.std.specs.Prelude.{map}
use Rattle.fs_model.specs.View.{named_assignment}
use Rattle.hls_sched.proofs.copies.add_assignments.Given as goal

abbrev pub invariant-loop-assign : goal.invariant-loop-assign
invariant-loop-assign l = map named_assignment l.out.items ≡ map named_assignment l.initial.out.items ++ map named_assignment (take l.assign-index l.assigns)
