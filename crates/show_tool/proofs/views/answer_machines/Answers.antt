use Rattle.show_tool.proofs.views.answer_machines.Goals as goal

pub returns-in-Why : goal.returns-in-Why
returns-in-Why c = rw c.in-Why.is c.why_machines.ensures

pub returns-in-Inputs : goal.returns-in-Inputs
returns-in-Inputs c = rw c.in-Inputs.is c.differing_machines.ensures
