use Rattle.std.proofs.Common.{◌≡◌, [], map, take, drop}
use Rattle.nf_trees.specs.View.{term_in}
use Rattle.propagate_equations.specs.EquationSteps.{split_from}
use Rattle.propagate_equations.proofs.splits.split_off.Given as goal

abbrev pub invariant-loop-place : goal.invariant-loop-place
invariant-loop-place l = split_from l.meanings (map term_in (take l.place l.terms)) (map term_in (drop l.place l.terms))
    ≡ split_from l.meanings [] (map term_in l.terms)
