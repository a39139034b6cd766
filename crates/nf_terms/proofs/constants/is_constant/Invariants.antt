use Rattle.std.proofs.Common.{◌≡◌, map, drop}
use Rattle.nf_trees.specs.NormalTerms.{polynomial_of}
use Rattle.nf_trees.specs.View.{polynomial_in, term_in}
use Rattle.nf_terms.specs.Normal.{is_constant}
use Rattle.nf_terms.proofs.constants.is_constant.Given as goal

abbrev pub invariant-loop-mono : goal.invariant-loop-mono
invariant-loop-mono l =
    is_constant (polynomial_of (map term_in (drop l.mono-index l.mono-items))) ≡ is_constant (polynomial_in l.poly)
