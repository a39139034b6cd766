use Rattle.std.proofs.Common.{◌≡◌, map, drop}
use Rattle.nf_trees.specs.NormalTerms.{writes_of}
use Rattle.nf_trees.specs.View.{polynomial_in, write_in}
use Rattle.nf_terms.specs.Normal.{is_written}
use Rattle.nf_terms.proofs.ordered.is_written.Given as goal

abbrev pub invariant-loop-other : goal.invariant-loop-other
invariant-loop-other l =
    is_written (polynomial_in l.index) (writes_of (map write_in (drop l.other-index l.writes)))
    ≡ is_written (polynomial_in l.index) (writes_of (map write_in l.writes))
