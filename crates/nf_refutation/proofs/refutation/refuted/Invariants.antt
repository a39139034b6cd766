use Rattle.std.proofs.Common.{◌≡◌, map, drop}
use Rattle.nf_rel.specs.Bounds.{clashing_from}
use Rattle.nf_rel.specs.View.{literal_in}
use Rattle.nf_refutation.proofs.refutation.refuted.Given as goal

abbrev pub invariant-loop-first : goal.invariant-loop-first
invariant-loop-first l = clashing_from l.first (map literal_in (drop l.first l.list)) ≡ clashing_from 0 (map literal_in l.list)
