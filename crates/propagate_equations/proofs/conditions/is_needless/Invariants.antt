use Rattle.std.proofs.Common.{◌≡◌, map, drop}
use Rattle.std.specs.List.{list_any}
use Rattle.nf_rel.specs.NormalLiterals.{same_literal}
use Rattle.nf_rel.specs.View.{literal_in}
use Rattle.propagate_equations.proofs.conditions.is_needless.Given as goal

abbrev pub invariant-loop-other : goal.invariant-loop-other
invariant-loop-other l = list_any (same_literal (literal_in l.literal)) (map literal_in (drop l.other-index l.before))
    ≡ list_any (same_literal (literal_in l.literal)) (map literal_in l.before)
