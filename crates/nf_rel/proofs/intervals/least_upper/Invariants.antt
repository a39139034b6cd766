use Rattle.std.proofs.Common.{◌≡◌, map, drop}
use Rattle.std.specs.Option.{option_copied}
use Rattle.nf_rel.specs.Bounds.{least_upper}
use Rattle.nf_rel.specs.View.{literal_in}
use Rattle.nf_rel.proofs.intervals.least_upper.Given as goal

abbrev pub invariant-loop-l : goal.invariant-loop-l
invariant-loop-l l = least_upper l.dir (option_copied l.least) (map literal_in (drop l.l-index l.list))
    ≡ least_upper l.dir (option_copied l.fn.known) (map literal_in l.list)
