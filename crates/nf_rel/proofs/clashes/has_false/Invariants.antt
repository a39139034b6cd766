use Rattle.std.proofs.Common.{◌≡◌, map, drop}
use Rattle.std.specs.List.{list_any}
use Rattle.nf_rel.specs.Literals.{is_false}
use Rattle.nf_rel.specs.View.{literal_in}
use Rattle.nf_rel.proofs.clashes.has_false.Given as goal

abbrev pub invariant-loop-l : goal.invariant-loop-l
invariant-loop-l l = list_any is_false (map literal_in (drop l.l-index l.list)) ≡ list_any is_false (map literal_in l.list)
