use Rattle.std.proofs.Common.{◌≡◌, map, drop}
use Rattle.nf_trees.specs.NormalTerms.{monomial_of, polynomial_of, writes_of}
use Rattle.nf_trees.specs.View.{atom_in, polynomial_in, monomial_in, array_in, term_in, write_in}
use Rattle.nf_terms.specs.Normal.{narrow_monomial, narrow_inside, narrow_writes, narrow_array}
use Rattle.nf_terms.proofs.narrow.+narrows.Given as goal

abbrev pub invariant-is_narrow_arr-loop-index : goal.invariant-is_narrow_arr-loop-index
invariant-is_narrow_arr-loop-index l =
    narrow_writes (writes_of (map write_in (drop l.index-index l.index-items))) ≡ narrow_array (array_in l.arr)

abbrev pub invariant-is_narrow_mono-loop-atom : goal.invariant-is_narrow_mono-loop-atom
invariant-is_narrow_mono-loop-atom l =
    narrow_monomial (monomial_of (map atom_in (drop l.atom-index l.atom-items))) ≡ narrow_monomial (monomial_in l.mono)

abbrev pub invariant-is_narrow_inside-loop-mono : goal.invariant-is_narrow_inside-loop-mono
invariant-is_narrow_inside-loop-mono l =
    narrow_inside (polynomial_of (map term_in (drop l.mono-index l.mono-items))) ≡ narrow_inside (polynomial_in l.poly)
