use Rattle.fs_model.specs.View.{assignment_of}
use Rattle.fs_variable_sets.specs.Sets.{has_variable}
use Rattle.hls_bind.specs.Liveness.{read_by_assignment}
use Rattle.hls_bind.proofs.Loops.{read_more}
use Rattle.hls_bind.proofs.flows.with_assignments.Goals as goal

pub loop-assign-preserved : goal.loop-assign-preserved
loop-assign-preserved c =
    read_more read_by_assignment assignment_of c.args.assigns.now c.loop-assign.assign-index c.assign-item.result (has_variable c.loop-assign.set)
    (has_variable c.with_assignment-set.result) _ c.loop-assign-test.true c.assign-item.is c.with_assignment-set.ensures c.loop-assign.invariant
