use Rattle.std.proofs.Common.{arith, refl}
use Rattle.fs_model.specs.Machines.{Fsmd}
use Rattle.fsmd_answers.specs.MachineFiles.{SpellsMachine}
use Rattle.fsmd_answers.specs.Refusals.{RefusesMachine}
use Rattle.fsmd_answers.specs.RunAnswers.{IsOfRun}
use Rattle.fsmd_answers.specs.Follows.{Ends, OpensInputs}
use Rattle.fsmd_tool.proofs.Later.{read_both}
use Rattle.fsmd_tool.proofs.Loads.{fewer, at_most_on}
use Rattle.fsmd_tool.proofs.FromFiles.{machine_held}
use Rattle.fsmd_tool.proofs.InOrder.{passed_on, refused_in_order, spelled_in_order}
use Rattle.fsmd_tool.proofs.answer.machines.run_files.Goals as goal

pub returns-in_err-loaded-clause-answers : goal.returns-in_err-loaded-clause-answers
returns-in_err-loaded-clause-answers g c =
    passed_on _ c.from_residual.result _ c.from_residual.ensures.1
    (refused_in_order Fsmd RefusesMachine SpellsMachine (λ m. OpensInputs m (λ ins. Ends (IsOfRun c.args.steps m ins))) 0 _ _ c.load.ensures.loads
    c.in_err-loaded.ensures.refused)

pub returns-clause-answers : goal.returns-clause-answers
returns-clause-answers g c =
    let v = c.in_ok-loaded.loaded.machine in
    spelled_in_order Fsmd RefusesMachine SpellsMachine (λ m. OpensInputs m (λ ins. Ends (IsOfRun c.args.steps m ins)))
    0 _ _ _ (g.F.Files.told c.run_from.new.files) c.load.ensures.only_read c.load.ensures.loads v (machine_held _ _ _ _ refl c.in_ok-loaded.ensures.loaded)
    c.run_from.result
    c.run_from.ensures.answers

pub returns-in_err-loaded-clause-at_most : goal.returns-in_err-loaded-clause-at_most
returns-in_err-loaded-clause-at_most g c = fewer _ 0 1 2 _ _ (omega arith) c.load.ensures.at_most

pub returns-clause-at_most : goal.returns-clause-at_most
returns-clause-at_most g c =
    at_most_on _ 0 1 1 1 2 _ _ _ (omega arith) (omega arith) c.load.ensures.loads c.run_from.ensures.at_most

pub returns-clause-only_read : goal.returns-clause-only_read
returns-clause-only_read g c = read_both _ _ _ c.load.ensures.only_read c.run_from.ensures.only_read
