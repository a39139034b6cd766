use Rattle.std.proofs.Common.{◌≡◌, map, drop}
use Rattle.std.specs.Option.{option_copied}
use Rattle.nf_rel.specs.Bounds.{greatest_lower}
use Rattle.nf_rel.specs.View.{literal_in}
use Rattle.nf_rel.proofs.intervals.greatest_lower.Given as goal

abbrev pub invariant-loop-l : goal.invariant-loop-l
invariant-loop-l l = greatest_lower l.dir (option_copied l.greatest) (map literal_in (drop l.l-index l.list))
    ≡ greatest_lower l.dir (option_copied l.fn.known) (map literal_in l.list)
