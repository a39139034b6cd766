use Rattle.fs_stores.specs.InputValues.{inputs_of, signatures_of}
use Rattle.fs_run_text.proofs.Serving.{serves_both}
use Rattle.fsmd_answers.specs.Replays.{IsOfReplay}
use Rattle.fsmd_answers.specs.Shrinks.{IsOfShrink, Replayed}
use Rattle.fsmd_answers.proofs.Maps.{ok_map}
use Rattle.fsmd_answers.proofs.SmallAnswers.{some_apart}
use Rattle.fsmd_answers.proofs.shrinks.shrink_inputs.Goals as goal

pub differing_ends-requires-clause-right : goal.differing_ends-requires-clause-right
differing_ends-requires-clause-right c =
    serves_both c.args.pair.now.left c.args.pair.now.right (signatures_of c.args.inputs.now) c.requires.alike c.requires.inputs

pub replay_machines-requires-clause-right_inputs : goal.replay_machines-requires-clause-right_inputs
replay_machines-requires-clause-right_inputs c =
    serves_both c.args.pair.now.left c.args.pair.now.right (signatures_of c.args.inputs.now) c.requires.alike c.requires.inputs

pub shrunk_answer-requires-clause-shows : goal.shrunk_answer-requires-clause-shows
shrunk_answer-requires-clause-shows c =
    let ins = inputs_of c.args.inputs.now in
    some_apart c.args.pair.now.left c.args.pair.now.right ins c.args.steps _ _ c.in-Ok-Some.field-0-is c.in-Ok-Some.ensures.found

pub returns-in-Ok-None : goal.returns-in-Ok-None
returns-in-Ok-None c =
    let none = c.in-Ok-None.ensures.none c.in-Ok-None.field-0-is in
    let ins = inputs_of c.args.inputs.now in
    let replays = IsOfReplay c.args.steps c.args.pair.now.left c.args.pair.now.right ins in
    let shrinks = IsOfShrink c.args.steps c.args.pair.now.left c.args.pair.now.right ins in
    ok_map replays shrinks (λ x h. Replayed none h) c.replay_machines.result c.replay_machines.ensures
