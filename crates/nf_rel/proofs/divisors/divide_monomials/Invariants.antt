use Rattle.std.proofs.Common.{◌≡◌, ◌++◌, map, drop}
use Rattle.std.specs.List.{flat_map}
use Rattle.nf_trees.specs.View.{term_in}
use Rattle.nf_rel.proofs.Divided.{kept_term}
use Rattle.nf_rel.proofs.divisors.divide_monomials.Given as goal

abbrev pub invariant-loop-mono : goal.invariant-loop-mono
invariant-loop-mono l = map term_in l.out.items ++ flat_map (kept_term l.by) (drop l.mono-index l.terms) ≡ flat_map (kept_term l.by) l.terms
