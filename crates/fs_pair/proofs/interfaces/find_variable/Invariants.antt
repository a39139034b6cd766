use Rattle.std.proofs.Common.{◌≡◌, drop}
use Rattle.fs_pair.specs.Interfaces.{variable_named}
use Rattle.fs_pair.proofs.interfaces.find_variable.Given as goal

abbrev pub invariant-loop-variable : goal.invariant-loop-variable
invariant-loop-variable l = variable_named (drop l.variable-index l.vars) l.name ≡ variable_named l.vars l.name
