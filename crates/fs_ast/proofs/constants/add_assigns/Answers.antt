use Rattle.fs_model.specs.View.{assignment_of}
use Rattle.fs_model.specs.SoundMachines.{numbers_in_assignment, numbers_in_assignments}
use Rattle.fs_ast.proofs.Numbers.{assignments_push, put_numbers}
use Rattle.fs_ast.proofs.constants.add_assigns.Goals as goal

pub loop-assign-preserved : goal.loop-assign-preserved
loop-assign-preserved c =
    put_numbers numbers_in_assignments numbers_in_assignment assignments_push assignment_of c.args.assigns.now c.loop-assign.assign-index c.assign-item.result
    c.loop-assign-test.true c.assign-item.is c.args.out.now.items _ _ c.in_ok-add_assign.ensures c.loop-assign.invariant
