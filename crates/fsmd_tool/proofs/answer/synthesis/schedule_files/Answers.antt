use Rattle.std.proofs.Common.{arith}
use Rattle.fs_model.specs.Source.{Source}
use Rattle.fs_model.specs.View.{source_of}
use Rattle.fsmd_answers.specs.MachineFiles.{SpellsParts}
use Rattle.fsmd_answers.specs.Refusals.{RefusesMachine}
use Rattle.fsmd_answers.specs.ScheduleFiles.{IsOfSchedule}
use Rattle.fsmd_answers.specs.Follows.{Ends, OpensUnits}
use Rattle.fsmd_tool.proofs.FromFiles.{parts_held}
use Rattle.fsmd_tool.proofs.Later.{read_both}
use Rattle.fsmd_tool.proofs.Loads.{fewer, at_most_on}
use Rattle.fsmd_tool.proofs.InOrder.{passed_on, refused_in_order, spelled_in_order}
use Rattle.fsmd_tool.proofs.answer.synthesis.schedule_files.Goals as goal

pub returns-in_err-loaded-clause-answers : goal.returns-in_err-loaded-clause-answers
returns-in_err-loaded-clause-answers g c =
    passed_on _ c.from_residual.result _ c.from_residual.ensures.1
    (refused_in_order Source RefusesMachine SpellsParts (λ parts. OpensUnits (λ counts. Ends (IsOfSchedule parts counts))) 0 _ _ c.load.ensures.loads
    c.in_err-loaded.ensures.refused)

pub returns-clause-answers : goal.returns-clause-answers
returns-clause-answers g c =
    let v = source_of c.in_ok-loaded.loaded.parts in
    spelled_in_order Source RefusesMachine SpellsParts (λ parts. OpensUnits (λ counts. Ends (IsOfSchedule parts counts))) 0 _ _ _
    (g.F.Files.told c.schedule_from.new.files) c.load.ensures.only_read c.load.ensures.loads v
    (parts_held _ _ _ c.in_ok-loaded.ensures.loaded) c.schedule_from.result
    c.schedule_from.ensures.answers

pub schedule_from-requires : goal.schedule_from-requires
schedule_from-requires g c = record {
  formed = c.in_ok-loaded.ensures.well_formed;
  lawful = c.in_ok-loaded.ensures.loaded.meet.spells.lawful;
  spelled = c.in_ok-loaded.ensures.loaded.meet.machine;
}

pub returns-in_err-loaded-clause-at_most : goal.returns-in_err-loaded-clause-at_most
returns-in_err-loaded-clause-at_most g c = fewer _ 0 1 2 _ _ (omega arith) c.load.ensures.at_most

pub returns-clause-at_most : goal.returns-clause-at_most
returns-clause-at_most g c =
    at_most_on _ 0 1 1 1 2 _ _ _ (omega arith) (omega arith) c.load.ensures.loads c.schedule_from.ensures.at_most

pub returns-clause-only_read : goal.returns-clause-only_read
returns-clause-only_read g c = read_both _ _ _ c.load.ensures.only_read c.schedule_from.ensures.only_read
