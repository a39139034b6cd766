use Rattle.std.proofs.Common.{◌≡◌, map, drop}
use Rattle.nf_trees.specs.NormalTerms.{polynomial_of}
use Rattle.nf_trees.specs.View.{polynomial_in, term_in}
use Rattle.nf_terms.specs.Normal.{constant_part}
use Rattle.nf_terms.proofs.constants.constant_part.Given as goal

abbrev pub invariant-loop-mono : goal.invariant-loop-mono
invariant-loop-mono l =
    constant_part (polynomial_of (map term_in (drop l.mono-index l.mono-items))) ≡ constant_part (polynomial_in l.poly)
