use Rattle.std.proofs.Common.{◌≡◌, map, drop}
use Rattle.nf_trees.specs.NormalTerms.{monomial_of, polynomial_of, writes_of}
use Rattle.nf_trees.specs.View.{atom_in, polynomial_in, monomial_in, array_in, term_in, write_in}
use Rattle.nf_terms.specs.Normal.{ordered_monomial, ordered, ordered_writes, ordered_array}
use Rattle.nf_terms.proofs.ordered.+ordered.Given as goal

abbrev pub invariant-is_ordered_arr-loop-i : goal.invariant-is_ordered_arr-loop-i
invariant-is_ordered_arr-loop-i l =
    ordered_writes (writes_of (map write_in (drop l.i l.write-items))) ≡ ordered_array (array_in l.arr)

abbrev pub invariant-is_ordered_mono-loop-i : goal.invariant-is_ordered_mono-loop-i
invariant-is_ordered_mono-loop-i l =
    ordered_monomial (monomial_of (map atom_in (drop l.i l.atom-items))) ≡ ordered_monomial (monomial_in l.mono)

abbrev pub invariant-is_ordered_poly-loop-i : goal.invariant-is_ordered_poly-loop-i
invariant-is_ordered_poly-loop-i l =
    ordered (polynomial_of (map term_in (drop l.i l.term-items))) ≡ ordered (polynomial_in l.poly)
