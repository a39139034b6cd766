use Rattle.std.proofs.Common.{◌≡◌, drop, map}
use Rattle.fs_pair.specs.SidedVariables.{is_alone}
use Rattle.fs_pair.specs.View.{sided_variable_of}
use Rattle.fs_pair.proofs.sided_variables.is_alone.Given as goal

abbrev pub invariant-loop-other : goal.invariant-loop-other
invariant-loop-other l = is_alone (map sided_variable_of (drop l.other-index l.others)) (sided_variable_of l.member)
    ≡ is_alone (map sided_variable_of l.others) (sided_variable_of l.member)
