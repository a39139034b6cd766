use Rattle.std.proofs.Common.{◌≡◌, drop}
use Rattle.fs_pair.specs.Interfaces.{first_unmatched}
use Rattle.fs_pair.proofs.interfaces.first_unmatched.Given as goal

abbrev pub invariant-loop-variable : goal.invariant-loop-variable
invariant-loop-variable l = first_unmatched (drop l.variable-index l.vars) l.others ≡ first_unmatched l.vars l.others
