use Rattle.std.proofs.Common.{◌≡◌, map, drop}
use Rattle.nf_trees.specs.NormalTerms.{polynomial_of}
use Rattle.nf_trees.specs.View.{term_in}
use Rattle.nf_rel.specs.NormalLiterals.{lacks_constant}
use Rattle.nf_rel.proofs.primitive.lacks_constant.Given as goal

abbrev pub invariant-loop-mono : goal.invariant-loop-mono
invariant-loop-mono l = lacks_constant (polynomial_of (map term_in (drop l.mono-index l.terms))) ≡ lacks_constant (polynomial_of (map term_in l.terms))
