use Rattle.std.proofs.Common.{◌≡◌, map, drop}
use Rattle.nf_rel.specs.Literals.{meets_all}
use Rattle.nf_rel.specs.View.{literal_in}
use Rattle.nf_rel.proofs.intervals.meets_all.Given as goal

abbrev pub invariant-loop-l : goal.invariant-loop-l
invariant-loop-l l = meets_all l.dir l.number (map literal_in (drop l.l-index l.list)) ≡ meets_all l.dir l.number (map literal_in l.list)
