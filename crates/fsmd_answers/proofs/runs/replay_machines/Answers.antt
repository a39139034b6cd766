use Rattle.fs_stores.specs.InputValues.{inputs_of}
use Rattle.fsmd_answers.proofs.Ends.{left_stopped, right_stopped, both_ended}
use Rattle.fsmd_answers.proofs.runs.replay_machines.Goals as goal

pub returns-in-Err : goal.returns-in-Err
returns-in-Err c = left_stopped c.args.steps c.args.pair.now.left c.args.pair.now.right
    (inputs_of c.args.inputs.now) c.in-Err.stop c.stop_answer.result c.in-Err.ensures.stopped c.stop_answer.ensures

pub returns-in-Err-run : goal.returns-in-Err-run
returns-in-Err-run c =
    right_stopped c.args.steps c.args.pair.now.left c.args.pair.now.right
    (inputs_of c.args.inputs.now) _ c.in-Ok.ended.steps c.in-Err-run.stop c.stop_answer-in-Err-run.result
    (record { run = c.in-Ok.ensures.ended; within = c.in-Ok.ensures.within; in_range = c.in-Ok.ensures.in_range }) c.in-Err-run.ensures.stopped
    c.stop_answer-in-Err-run.ensures

pub returns-in-Ok-replay_text : goal.returns-in-Ok-replay_text
returns-in-Ok-replay_text c =
    both_ended c.args.steps c.args.pair.now.left c.args.pair.now.right (inputs_of c.args.inputs.now) _ _ c.in-Ok.ended.steps c.in-Ok-run.ended.steps
    c.in-Ok-replay_text.field-0.same c.in-Ok-replay_text.field-0.text.items c.of.result c.replay_answer.result
    (record { run = c.in-Ok.ensures.ended; within = c.in-Ok.ensures.within; in_range = c.in-Ok.ensures.in_range })
    (record { run = c.in-Ok-run.ensures.ended; within = c.in-Ok-run.ensures.within; in_range = c.in-Ok-run.ensures.in_range })
    c.in-Ok-replay_text.ensures.same c.in-Ok-replay_text.ensures.text c.of.ensures c.replay_answer.ensures
