use Rattle.std.proofs.Common.{Some}
use Rattle.fs_model.specs.Runs.{Inputs}
use Rattle.fs_stores.specs.InputValues.{inputs_of}
use Rattle.fsmd_words.specs.AskedWords.{asked_of_ask}
use Rattle.fsmd_answers.specs.InputFiles.{RefusesInputs, SpellsInputs}
use Rattle.fsmd_answers.specs.Follows.{Ends, OpensInputs}
use Rattle.fsmd_tool.specs.Calls.{call, IsCorrectFrom}
use Rattle.fsmd_tool.proofs.FromFiles.{refused_as, spelled_last}
use Rattle.fsmd_tool.proofs.InOrder.{made_answers, passed_on}
use Rattle.show_tool.specs.Views.{IsOfTrace}
use Rattle.show_tool.proofs.views.show_trace_of.Goals as goal

pub returns-in_err-inputs-clause-answers : goal.returns-in_err-inputs-clause-answers
returns-in_err-inputs-clause-answers g c =
    let m = c.args.machine.now in
    passed_on _ c.from_residual.result _ c.from_residual.ensures.1
    (refused_as Inputs (RefusesInputs m) (SpellsInputs m) (λ v. Ends (IsOfTrace c.args.steps m v)) 1 _ _ c.in_err-inputs.ensures.refused)

pub returns-clause-answers : goal.returns-clause-answers
returns-clause-answers g c =
    let m = c.args.machine.now in
    let Q = IsOfTrace c.args.steps m in
    let v = inputs_of c.in_ok-inputs.inputs in
    made_answers (Q v) (IsCorrectFrom (OpensInputs m (λ w. Ends (Q w))) 1
    (call (Some (asked_of_ask c.args.ask.now)) (g.F.Files.told c.args.files.now) (g.F.Files.told c.load_inputs.new.files)))
    (λ x p. spelled_last Inputs (RefusesInputs m) (SpellsInputs m) Q 1 _ v x c.in_ok-inputs.ensures.spells p) c.trace_machine.result c.made_answer.result
    c.made_answer.ensures c.trace_machine.ensures
