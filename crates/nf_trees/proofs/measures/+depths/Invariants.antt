use Rattle.std.proofs.Common.{◌≡◌, ◌-◌, ◌^◌, ◌≤◌, min, max, map, drop}
use Rattle.nf_trees.specs.NormalTerms.{monomial_of, polynomial_of, writes_of}
use Rattle.nf_trees.specs.View.{atom_in, polynomial_in, monomial_in, array_in, term_in, write_in}
use Rattle.nf_trees.specs.Measures.{depth_of_monomial, depth_of, depth_of_writes, depth_of_array}
use Rattle.nf_trees.proofs.measures.+depths.Given as goal

abbrev pub invariant-depth_of_arr-loop-index : goal.invariant-depth_of_arr-loop-index
invariant-depth_of_arr-loop-index l =
    (l.deepest ≤ 2 ^ 32 - 1)
    × (min (max l.deepest (depth_of_writes (writes_of (map write_in (drop l.index-index l.index-items))))) (2 ^ 32 - 1)
    ≡ min (depth_of_array (array_in l.arr)) (2 ^ 32 - 1))

abbrev pub invariant-depth_of_mono-loop-atom : goal.invariant-depth_of_mono-loop-atom
invariant-depth_of_mono-loop-atom l =
    (l.deepest ≤ 2 ^ 32 - 1)
    × (min (max l.deepest (depth_of_monomial (monomial_of (map atom_in (drop l.atom-index l.atom-items))))) (2 ^ 32 - 1)
    ≡ min (depth_of_monomial (monomial_in l.mono)) (2 ^ 32 - 1))

abbrev pub invariant-depth_of_poly-loop-mono : goal.invariant-depth_of_poly-loop-mono
invariant-depth_of_poly-loop-mono l =
    (l.deepest ≤ 2 ^ 32 - 1)
    × (min (max l.deepest (depth_of (polynomial_of (map term_in (drop l.mono-index l.mono-items))))) (2 ^ 32 - 1)
    ≡ min (depth_of (polynomial_in l.poly)) (2 ^ 32 - 1))
