use Rattle.std.proofs.Common.{refl}
use Rattle.fs_model.specs.Machines.{Fsmd}
use Rattle.fsmd_answers.specs.MachineFiles.{SpellsMachine}
use Rattle.fsmd_answers.specs.Refusals.{RefusesMachine, RefusesPair}
use Rattle.fsmd_answers.specs.Follows.{ComparesPairs}
use Rattle.fsmd_tool.specs.Loading.{NothingFollows}
use Rattle.fsmd_tool.proofs.FromFiles.{machine_held}
use Rattle.fsmd_tool.proofs.InOrder.{refused_on, refused_in_order, next_in_order}
use Rattle.fsmd_tool.proofs.load.load_next.Goals as goal

pub returns-in_err-machine-clause-refused : goal.returns-in_err-machine-clause-refused
returns-in_err-machine-clause-refused g c =
    refused_on _ c.from_residual.result _ c.from_residual.ensures.1
    (refused_in_order Fsmd RefusesMachine SpellsMachine (λ b. ComparesPairs c.args.left.now b (RefusesPair c.args.left.now b) NothingFollows)
    c.args.file.0 _ _ c.load.ensures.loads c.in_err-machine.ensures.refused)

pub returns-in_err-pairing-clause-refused : goal.returns-in_err-pairing-clause-refused
returns-in_err-pairing-clause-refused g c =
    refused_on _ c.from_residual-in_err-pairing.result _ c.from_residual-in_err-pairing.ensures.1
    (next_in_order c.args.left.now c.in_ok-machine.field-0.machine c.args.file.0 _ _ c.load.ensures.loads
    (machine_held _ _ _ _ refl c.in_ok-machine.ensures.loaded)
    c.in_err-pairing.ensures.refused)
