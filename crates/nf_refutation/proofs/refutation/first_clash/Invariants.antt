use Rattle.std.proofs.Common.{◌≡◌, ◌-◌, length, map, drop}
use Rattle.std.specs.List.{position_from}
use Rattle.nf_rel.specs.Literals.{clash}
use Rattle.nf_rel.specs.View.{literal_in}
use Rattle.nf_refutation.proofs.refutation.first_clash.Given as goal

abbrev pub decreases-loop-place : goal.decreases-loop-place
decreases-loop-place l = length l.list - l.place

abbrev pub invariant-loop-place : goal.invariant-loop-place
invariant-loop-place l = position_from (clash (literal_in l.l)) l.place (map literal_in (drop l.place l.list))
    ≡ position_from (clash (literal_in l.l)) l.first (map literal_in (drop l.first l.list))
