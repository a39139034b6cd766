use Rattle.fs_model.specs.Runs.{Inputs}
use Rattle.fs_stores.specs.InputValues.{inputs_of}
use Rattle.fsmd_answers.specs.InputFiles.{RefusesInputs, SpellsInputs}
use Rattle.fsmd_answers.specs.RunAnswers.{IsOfRun}
use Rattle.fsmd_answers.specs.Follows.{Ends}
use Rattle.fsmd_tool.proofs.InOrder.{passed_on, refused_in_order, made_last}
use Rattle.fsmd_tool.proofs.answer.machines.run_from.Goals as goal

pub returns-in_err-inputs-clause-answers : goal.returns-in_err-inputs-clause-answers
returns-in_err-inputs-clause-answers g c =
    passed_on _ c.from_residual.result _ c.from_residual.ensures.1
    (refused_in_order Inputs (RefusesInputs c.args.machine.now) (SpellsInputs c.args.machine.now) (λ v. Ends (IsOfRun c.args.steps c.args.machine.now v))
    1 _ _ c.load_inputs.ensures.loads c.in_err-inputs.ensures.refused)

pub returns-clause-answers : goal.returns-clause-answers
returns-clause-answers g c = made_last Inputs (RefusesInputs c.args.machine.now) (SpellsInputs c.args.machine.now)
    (IsOfRun c.args.steps c.args.machine.now) 1 _ (inputs_of c.in_ok-inputs.inputs)
    c.load_inputs.ensures.loads c.in_ok-inputs.ensures.spells c.run_machine.result c.made_answer.result c.made_answer.ensures c.run_machine.ensures
