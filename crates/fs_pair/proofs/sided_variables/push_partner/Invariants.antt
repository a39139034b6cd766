use Rattle.std.proofs.Common.{◌≡◌, drop, map}
use Rattle.fs_pair.specs.SidedVariables.{partner_among}
use Rattle.fs_pair.specs.View.{sided_variable_of}
use Rattle.fs_pair.proofs.sided_variables.push_partner.Given as goal

abbrev pub invariant-loop-other : goal.invariant-loop-other
invariant-loop-other l = record {
  rest : partner_among (map sided_variable_of (drop l.other-index l.others)) l.variable ≡ partner_among (map sided_variable_of l.others) l.variable;
  same : map sided_variable_of l.out.items ≡ map sided_variable_of l.initial.out.items;
}
