use Rattle.std.proofs.Common.{◌≡◌, ◌++◌, map, drop}
use Rattle.nf_trees.specs.View.{term_in}
use Rattle.nf_sums.proofs.Negations.{opposite}
use Rattle.nf_sums.proofs.negation.negate_terms.Given as goal

abbrev pub invariant-loop-mono : goal.invariant-loop-mono
invariant-loop-mono l = map term_in l.out.items ++ map opposite (drop l.mono-index l.terms) ≡ map opposite l.terms
