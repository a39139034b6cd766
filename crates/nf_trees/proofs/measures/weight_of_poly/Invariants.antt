use Rattle.std.proofs.Common.{◌≡◌, ◌+◌, ◌-◌, ◌^◌, ◌≤◌, min, map, drop}
use Rattle.nf_trees.specs.NormalTerms.{polynomial_of}
use Rattle.nf_trees.specs.View.{polynomial_in, term_in}
use Rattle.nf_trees.specs.Measures.{weight_of}
use Rattle.nf_trees.proofs.measures.weight_of_poly.Given as goal

abbrev pub invariant-loop-mono : goal.invariant-loop-mono
invariant-loop-mono l =
    (l.total ≤ 2 ^ 128 - 1)
    × (min (l.total + weight_of (polynomial_of (map term_in (drop l._mono-index l._mono-items)))) (2 ^ 128 - 1)
    ≡ min (weight_of (polynomial_in l.poly)) (2 ^ 128 - 1))
