use Rattle.std.proofs.Common.{◌≡◌, ◌+◌, ◌-◌, ◌^◌, ◌≤◌, min, map, drop}
use Rattle.nf_trees.specs.NormalTerms.{monomial_of, polynomial_of, writes_of}
use Rattle.nf_trees.specs.View.{atom_in, polynomial_in, monomial_in, array_in, term_in, write_in}
use Rattle.nf_trees.specs.Measures.{size_of_monomial, size_of, size_of_writes, size_of_array}
use Rattle.nf_trees.proofs.measures.+sizes.Given as goal

abbrev pub invariant-size_of_arr-loop-index : goal.invariant-size_of_arr-loop-index
invariant-size_of_arr-loop-index l =
    (l.total ≤ 2 ^ 64 - 1)
    × (min (l.total + size_of_writes (writes_of (map write_in (drop l.index-index l.index-items)))) (2 ^ 64 - 1)
    ≡ min (size_of_array (array_in l.arr)) (2 ^ 64 - 1))

abbrev pub invariant-size_of_mono-loop-atom : goal.invariant-size_of_mono-loop-atom
invariant-size_of_mono-loop-atom l =
    (l.total ≤ 2 ^ 64 - 1)
    × (min (l.total + size_of_monomial (monomial_of (map atom_in (drop l.atom-index l.atom-items)))) (2 ^ 64 - 1)
    ≡ min (size_of_monomial (monomial_in l.mono)) (2 ^ 64 - 1))

abbrev pub invariant-size_of_poly-loop-mono : goal.invariant-size_of_poly-loop-mono
invariant-size_of_poly-loop-mono l =
    (l.total ≤ 2 ^ 64 - 1)
    × (min (l.total + size_of (polynomial_of (map term_in (drop l.mono-index l.mono-items)))) (2 ^ 64 - 1) ≡ min (size_of (polynomial_in l.poly)) (2 ^ 64 - 1))
