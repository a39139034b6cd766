use Rattle.std.proofs.Common.{◌≡◌, map, drop}
use Rattle.nf_trees.specs.NormalTerms.{polynomial_of}
use Rattle.nf_trees.specs.View.{polynomial_in, term_in}
use Rattle.nf_substitution.specs.StayingTerms.{terms_stay}
use Rattle.nf_substitution.proofs.staying.terms_stay.Given as goal

abbrev pub invariant-loop-mono : goal.invariant-loop-mono
invariant-loop-mono l = terms_stay l.v (polynomial_of (map term_in (drop l.mono-index l.mono-items))) ≡ terms_stay l.v (polynomial_in l.poly)
