use Rattle.fs_model.specs.View.{source_of}
use Rattle.hls_unit_counts.specs.Counts.{Units, units_in}
use Rattle.fsmd_answers.specs.ScheduleFiles.{RefusesUnits, SpellUnits, IsOfSchedule}
use Rattle.fsmd_answers.specs.Follows.{Ends}
use Rattle.fsmd_tool.proofs.InOrder.{passed_on, refused_in_order, made_last}
use Rattle.fsmd_tool.proofs.answer.synthesis.schedule_from.Goals as goal

pub returns-in_err-units-clause-answers : goal.returns-in_err-units-clause-answers
returns-in_err-units-clause-answers g c =
    passed_on _ c.from_residual.result _ c.from_residual.ensures.1
    (refused_in_order Units RefusesUnits SpellUnits (λ v. Ends (IsOfSchedule (source_of c.args.loaded.now.parts) v)) 1 _ _ c.load_units.ensures.loads
    c.in_err-units.ensures.refused)

pub returns-clause-answers : goal.returns-clause-answers
returns-clause-answers g c = made_last Units RefusesUnits SpellUnits (IsOfSchedule (source_of c.args.loaded.now.parts)) 1 _ (units_in c.in_ok-units.units)
    c.load_units.ensures.loads c.in_ok-units.ensures.spell c.schedule_machine.result c.made_answer.result c.made_answer.ensures c.schedule_machine.ensures
