use Rattle.fs_model.specs.Runs.{Inputs}
use Rattle.fs_stores.specs.InputValues.{inputs_of}
use Rattle.fs_run_text.proofs.Serving.{serves_both}
use Rattle.fsmd_answers.specs.InputFiles.{RefusesInputs, SpellsInputs}
use Rattle.fsmd_answers.specs.Replays.{IsOfReplay}
use Rattle.fsmd_answers.specs.Follows.{Ends}
use Rattle.fsmd_tool.proofs.InOrder.{passed_on, refused_in_order, made_last}
use Rattle.fsmd_tool.proofs.answer.pairs.replay_from.Goals as goal

pub returns-in_err-inputs-clause-answers : goal.returns-in_err-inputs-clause-answers
returns-in_err-inputs-clause-answers g c =
    passed_on _ c.from_residual.result _ c.from_residual.ensures.1
    (refused_in_order Inputs (RefusesInputs c.args.pair.now.left) (SpellsInputs c.args.pair.now.left) (λ v. Ends
    (IsOfReplay c.args.steps c.args.pair.now.left c.args.pair.now.right v))
    2 _ _ c.load_inputs.ensures.loads c.in_err-inputs.ensures.refused)

pub returns-clause-answers : goal.returns-clause-answers
returns-clause-answers g c = made_last Inputs (RefusesInputs c.args.pair.now.left) (SpellsInputs c.args.pair.now.left)
    (IsOfReplay c.args.steps c.args.pair.now.left c.args.pair.now.right) 2 _ (inputs_of c.in_ok-inputs.inputs)
    c.load_inputs.ensures.loads c.in_ok-inputs.ensures.spells c.replay_machines.result c.made_answer.result c.made_answer.ensures c.replay_machines.ensures

pub replay_machines-requires-clause-right_inputs : goal.replay_machines-requires-clause-right_inputs
replay_machines-requires-clause-right_inputs g c = serves_both c.args.pair.now.left c.args.pair.now.right _ c.requires.alike c.in_ok-inputs.ensures.signatures
