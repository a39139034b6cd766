use Rattle.std.proofs.lemmas.Result.{IfOk-weaker}
use Rattle.show_tool.proofs.answers.why_machines.Goals as goal

pub returns-in-Ok : goal.returns-in-Ok
returns-in-Ok c =
    IfOk-weaker c.why_answer.result _ _ (λ answer told. record { why = c.in-Ok.why; is = c.in-Ok.ensures; told = told }) c.why_answer.ensures
