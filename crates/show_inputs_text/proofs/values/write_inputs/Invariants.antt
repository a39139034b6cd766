use Rattle.std.proofs.Common.{◌≤◌}
use Rattle.show_inputs_text.proofs.values.write_inputs.Given as goal

abbrev pub invariant-loop-variable : goal.invariant-loop-variable
invariant-loop-variable l = l.number ≤ l.variable-index
