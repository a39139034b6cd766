use Rattle.std.proofs.Common.{◌≡◌, map, drop}
use Rattle.nf_trees.specs.NormalTerms.{monomial_of, polynomial_of, writes_of}
use Rattle.nf_trees.specs.View.{atom_in, polynomial_in, monomial_in, array_in, term_in, write_in}
use Rattle.nf_trees.specs.Order.{cmp_atoms, cmp_monomial, cmp_polynomial, cmp_writes, cmp_array}
use Rattle.nf_trees.specs.declared.tree.PolyTree.{out-PolyTree}
use Rattle.nf_trees.specs.declared.tree.ArrTree.{out-ArrTree}
use Rattle.nf_trees.proofs.order.+orders.Given as goal

abbrev pub invariant-compare_arrs-loop-n : goal.invariant-compare_arrs-loop-n
invariant-compare_arrs-loop-n l =
    cmp_writes (writes_of (map write_in (drop l.n l.write-items))) (writes_of (map write_in (drop l.n (out-ArrTree l.r).writes.items)))
    ≡ cmp_array (array_in l.l) (array_in l.r)

abbrev pub invariant-compare_monos-loop-i : goal.invariant-compare_monos-loop-i
invariant-compare_monos-loop-i l =
    cmp_atoms (monomial_of (map atom_in (drop l.i l.a-items))) (monomial_of (map atom_in (drop l.i l.r.atoms.items)))
    ≡ cmp_monomial (monomial_in l.l) (monomial_in l.r)

abbrev pub invariant-compare_polys-loop-i : goal.invariant-compare_polys-loop-i
invariant-compare_polys-loop-i l =
    cmp_polynomial (polynomial_of (map term_in (drop l.i l.term-items)))
    (polynomial_of (map term_in (drop l.i (out-PolyTree l.r).monos.items))) ≡ cmp_polynomial (polynomial_in l.l) (polynomial_in l.r)
