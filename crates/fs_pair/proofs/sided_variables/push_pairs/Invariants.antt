use Rattle.std.proofs.Common.{◌≡◌, ◌++◌, drop, map}
use Rattle.fs_pair.specs.SidedVariables.{with_partners}
use Rattle.fs_pair.specs.View.{sided_variable_of}
use Rattle.fs_pair.proofs.sided_variables.push_pairs.Given as goal

abbrev pub invariant-loop-member : goal.invariant-loop-member
invariant-loop-member l =
    map sided_variable_of l.out.items ++ with_partners (map sided_variable_of (drop l.member-index l.members)) (map sided_variable_of l.others)
    ≡ map sided_variable_of l.initial.out.items ++ with_partners (map sided_variable_of l.members) (map sided_variable_of l.others)
