use Rattle.fs_stores.specs.InputValues.{inputs_of}
use Rattle.fsmd_answers.proofs.Ends.{run_stopped, run_ended}
use Rattle.fsmd_answers.proofs.runs.run_machine.Goals as goal

pub returns-in-Err : goal.returns-in-Err
returns-in-Err c = run_stopped c.args.steps c.args.machine.now
    (inputs_of c.args.inputs.now) c.in-Err.stop c.stop_answer.result c.in-Err.ensures.stopped c.stop_answer.ensures

pub returns-in-Ok-end_text : goal.returns-in-Ok-end_text
returns-in-Ok-end_text c =
    run_ended c.args.steps c.args.machine.now (inputs_of c.args.inputs.now) _ c.in-Ok.ended.steps c.in-Ok-end_text.text.items c.of.result
    (record { run = c.in-Ok.ensures.ended; within = c.in-Ok.ensures.within; in_range = c.in-Ok.ensures.in_range }) c.in-Ok-end_text.ensures.text c.of.ensures
