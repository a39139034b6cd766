use Rattle.std.proofs.Common.{◌≡◌, map, drop}
use Rattle.nf_trees.specs.NormalTerms.{monomial_of, polynomial_of, writes_of}
use Rattle.nf_trees.specs.View.{atom_in, term_in, write_in}
use Rattle.nf_symbols.specs.GatheredSymbols.{with_monomial, with_polynomial, with_writes}
use Rattle.nf_symbols.proofs.gathering.+symbols.Given as goal

abbrev pub invariant-add_arr-loop-index : goal.invariant-add_arr-loop-index
invariant-add_arr-loop-index l =
    with_writes l.out.items (writes_of (map write_in (drop l.index-index l.index-items))) ≡ with_writes l.initial.out.items
    (writes_of (map write_in l.index-items))

abbrev pub invariant-add_mono-loop-atom : goal.invariant-add_mono-loop-atom
invariant-add_mono-loop-atom l =
    with_monomial l.out.items (monomial_of (map atom_in (drop l.atom-index l.atom-items))) ≡ with_monomial l.initial.out.items
    (monomial_of (map atom_in l.atom-items))

abbrev pub invariant-add_poly-loop-mono : goal.invariant-add_poly-loop-mono
invariant-add_poly-loop-mono l =
    with_polynomial l.out.items (polynomial_of (map term_in (drop l.mono-index l.mono-items))) ≡ with_polynomial l.initial.out.items
    (polynomial_of (map term_in l.mono-items))
