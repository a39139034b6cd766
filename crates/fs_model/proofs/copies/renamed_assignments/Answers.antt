use Rattle.fs_model.specs.View.{assignment_by}
use Rattle.fs_model.specs.Renamed.{assignment_over}
use Rattle.fs_model.proofs.Filled.{map_of_map_grows}
use Rattle.fs_model.proofs.copies.renamed_assignments.Goals as goal

pub loop-assign-preserved : goal.loop-assign-preserved
loop-assign-preserved g c =
    map_of_map_grows (assignment_by (λ x. x)) (assignment_over (g.R.Rename.renamed c.args.by.now)) (assignment_by (λ x. x)) c.loop-assign.out.items _
    c.args.assigns.now
    c.loop-assign.assign-index c.assign-item.result c.in_ok-copy_renamed.field-0 c.loop-assign-test.true c.assign-item.is c.in_ok-push_value.ensures
    c.in_ok-copy_renamed.ensures c.loop-assign.invariant
