use Rattle.std.proofs.Common.{◌++◌, map}
use Rattle.fs_model.specs.View.{named_assignment}
use Rattle.fs_model.proofs.Lists.{of_whole}
use Rattle.fs_model.proofs.Adding.{map_push_made}
use Rattle.hls_sched.proofs.Copied.{map_behind_start_grows}
use Rattle.hls_sched.proofs.copies.add_assignments.Goals as goal

pub loop-assign-preserved : goal.loop-assign-preserved
loop-assign-preserved c =
    map_behind_start_grows named_assignment _ c.args.assigns.now c.loop-assign.assign-index c.assign-item.result _ _ c.loop-assign-test.true c.assign-item.is
    (map_push_made named_assignment c.copied_assignment.result _ _ (named_assignment c.assign-item.result) c.in_ok-push_made.ensures
    c.copied_assignment.ensures) c.loop-assign.invariant

pub returns : goal.returns
returns c = of_whole (λ xs. map named_assignment c.args.out.now.items ++ map named_assignment xs) c.args.assigns.now c.loop-assign.assign-index _
    c.loop-assign-test.false c.loop-assign.invariant
