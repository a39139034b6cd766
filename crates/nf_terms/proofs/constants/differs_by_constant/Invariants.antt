use Rattle.std.proofs.Common.{◌≡◌, map, drop, true}
use Rattle.nf_trees.specs.NormalTerms.{polynomial_of}
use Rattle.nf_trees.specs.View.{polynomial_in, term_in}
use Rattle.nf_trees.specs.Order.{same_polynomial}
use Rattle.nf_terms.specs.Normal.{part_with_atoms, begins_with_atoms, differ_by_constant}
use Rattle.nf_terms.proofs.constants.differs_by_constant.Given as goal

abbrev pub invariant-loop-mono : goal.invariant-loop-mono
invariant-loop-mono l =
    (begins_with_atoms (polynomial_of (map term_in l.rest)) ≡ true)
    × (same_polynomial (part_with_atoms (polynomial_of (map term_in (drop l.mono-index l.mono-items)))) (part_with_atoms (polynomial_of (map term_in l.rest)))
    ≡ differ_by_constant (polynomial_in l.left) (polynomial_in l.right))
