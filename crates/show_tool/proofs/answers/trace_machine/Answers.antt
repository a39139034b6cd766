use Rattle.show_tool.proofs.TraceAnswers.{told_behind}
use Rattle.show_tool.proofs.answers.trace_machine.Goals as goal

pub returns-in_ok-run_machine-in-Ok : goal.returns-in_ok-run_machine-in-Ok
returns-in_ok-run_machine-in-Ok c =
    told_behind _ _ _ _ _ c.answer_behind_lines.result c.in-Ok.ensures c.in_ok-run_machine-in-Ok.ensures c.answer_behind_lines.ensures
