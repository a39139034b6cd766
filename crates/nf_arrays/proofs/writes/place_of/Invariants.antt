use Rattle.std.proofs.Common.{◌≡◌, map, take, drop}
use Rattle.nf_trees.specs.NormalTerms.{Polynomial}
use Rattle.nf_trees.specs.View.{polynomial_in, write_in}
use Rattle.nf_terms.specs.Tidied.{with_write}
use Rattle.nf_arrays.proofs.Inserting.{followed}
use Rattle.nf_arrays.proofs.Stopping.{writes_in}
use Rattle.nf_arrays.proofs.writes.place_of.Given as goal

abbrev pub invariant-loop-place : goal.invariant-loop-place
invariant-loop-place l =
    (v : Polynomial) → with_write (polynomial_in l.index) v (writes_in l.writes)
    ≡ followed (map write_in (take l.place l.writes)) (with_write (polynomial_in l.index) v (writes_in (drop l.place l.writes)))
