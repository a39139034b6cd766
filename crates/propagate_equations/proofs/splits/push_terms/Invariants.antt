use Rattle.std.proofs.Common.{◌≡◌, ◌++◌, map, drop}
use Rattle.nf_trees.specs.View.{term_in}
use Rattle.propagate_equations.proofs.splits.push_terms.Given as goal

abbrev pub invariant-loop-mono : goal.invariant-loop-mono
invariant-loop-mono l = map term_in l.out.items ++ map term_in (drop l.mono-index l.terms) ≡ map term_in l.initial.out.items ++ map term_in l.terms
