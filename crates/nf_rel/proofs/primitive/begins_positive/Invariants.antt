use Rattle.std.proofs.Common.{◌≡◌, map, drop}
use Rattle.nf_trees.specs.NormalTerms.{polynomial_of}
use Rattle.nf_trees.specs.View.{term_in}
use Rattle.nf_terms.specs.Normal.{part_with_atoms}
use Rattle.nf_rel.specs.Literals.{begins_positive}
use Rattle.nf_rel.proofs.primitive.begins_positive.Given as goal

abbrev pub invariant-loop-mono : goal.invariant-loop-mono
invariant-loop-mono l = begins_positive (part_with_atoms (polynomial_of (map term_in (drop l.mono-index l.terms))))
    ≡ begins_positive (part_with_atoms (polynomial_of (map term_in l.terms)))
