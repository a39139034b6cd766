use Rattle.fs_model.specs.SoundMachines.{numbers_in_transitions}
use Rattle.fs_branches.specs.NumberedParts.{resolved_transition}
use Rattle.fs_ast.proofs.Numbers.{numbers_in_transition, lines_push, put_numbers}
use Rattle.fs_ast.proofs.constants.add_transitions.Goals as goal

pub loop-line-preserved : goal.loop-line-preserved
loop-line-preserved c =
    put_numbers numbers_in_transitions numbers_in_transition lines_push resolved_transition c.args.lines.now c.loop-line.line-index c.line-item.result
    c.loop-line-test.true c.line-item.is c.args.out.now.items _ _ c.in_ok-add_transition.ensures c.loop-line.invariant
