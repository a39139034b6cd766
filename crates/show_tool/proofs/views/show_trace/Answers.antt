use Rattle.std.proofs.Common.{Some, refl}
use Rattle.fs_model.specs.Machines.{Fsmd}
use Rattle.fsmd_words.specs.AskedWords.{asked_of_ask}
use Rattle.fsmd_answers.specs.MachineFiles.{SpellsMachine}
use Rattle.fsmd_answers.specs.Refusals.{RefusesMachine}
use Rattle.fsmd_answers.specs.Follows.{Ends, OpensInputs}
use Rattle.fsmd_tool.specs.Calls.{call}
use Rattle.fsmd_tool.proofs.FromFiles.{machine_held, refused_as, spelled_as}
use Rattle.fsmd_tool.proofs.InOrder.{passed_on}
use Rattle.fsmd_tool.proofs.Later.{answers_since, read_both}
use Rattle.show_tool.specs.Views.{IsOfTrace}
use Rattle.show_tool.proofs.views.show_trace.Goals as goal

pub returns-in_err-machine-clause-answers : goal.returns-in_err-machine-clause-answers
returns-in_err-machine-clause-answers g c =
    passed_on _ c.from_residual.result _ c.from_residual.ensures.1
    (refused_as Fsmd RefusesMachine SpellsMachine (λ m. OpensInputs m (λ v. Ends (IsOfTrace c.args.steps m v))) 0 _ _ c.in_err-machine.ensures.refused)

pub returns-clause-answers : goal.returns-clause-answers
returns-clause-answers g c =
    spelled_as Fsmd RefusesMachine SpellsMachine (λ m. OpensInputs m (λ v. Ends (IsOfTrace c.args.steps m v))) 0
    (call (Some (asked_of_ask c.args.ask.now)) (g.F.Files.told c.args.files.now) (g.F.Files.told c.show_trace_of.new.files))
    c.in_ok-machine.field-0.machine (machine_held _ _ _ _ refl c.in_ok-machine.ensures.loaded) c.show_trace_of.result
    (answers_since _ _ _ _ c.load.ensures.only_read _ 1 c.show_trace_of.result c.show_trace_of.ensures.answers)

pub returns-clause-only_read : goal.returns-clause-only_read
returns-clause-only_read g c = read_both _ _ _ c.load.ensures.only_read c.show_trace_of.ensures.only_read
