use Rattle.std.proofs.Common.{◌≡◌, map, drop}
use Rattle.nf_trees.specs.NormalTerms.{polynomial_of}
use Rattle.nf_trees.specs.View.{term_in}
use Rattle.nf_terms.specs.Normal.{part_with_atoms}
use Rattle.nf_terms.proofs.constants.skip_constants.Given as goal

abbrev pub invariant-loop-place : goal.invariant-loop-place
invariant-loop-place l =
    part_with_atoms (polynomial_of (map term_in (drop l.place l.terms))) ≡ part_with_atoms (polynomial_of (map term_in l.terms))
