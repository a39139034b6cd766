use Rattle.std.proofs.Common.{◌≡◌, drop}
use Rattle.nf_terms.specs.Lists.{cmp_items}
use Rattle.nf_terms.proofs.seq.compare_items.Given as goal

abbrev pub invariant-loop-i : goal.invariant-loop-i
invariant-loop-i l = cmp_items (drop l.i l.l) (drop l.i l.r) ≡ cmp_items l.l l.r
