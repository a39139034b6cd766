use Rattle.std.proofs.Common.{◌≡◌, ◌++◌, drop, map}
use Rattle.fs_pair.specs.SidedVariables.{sided_variables}
use Rattle.fs_pair.specs.View.{sided_variable_of}
use Rattle.fs_pair.proofs.sided_variables.members_of.Given as goal

abbrev pub invariant-loop-number : goal.invariant-loop-number
invariant-loop-number l = map sided_variable_of l.out.items ++ sided_variables l.side l.number (drop l.number l.vars) ≡ sided_variables l.side 0 l.vars
