use Rattle.std.proofs.Common.{◌≡◌, map, drop}
use Rattle.nf_trees.specs.NormalTerms.{monomial_of, polynomial_of, writes_of, Over}
use Rattle.nf_trees.specs.View.{atom_in, monomial_in, polynomial_in, array_in, term_in, write_in}
use Rattle.nf_trees.specs.declared.tree.ArrTree.{out-ArrTree}
use Rattle.nf_bank.specs.Atoms.{with_monomial, with_terms, with_writes, with_array, IsFront}
use Rattle.nf_bank.specs.AtomNumbers.{bound_of_number, bound_of_term, bound_of_write, atom_of_number, scaled_monomial_over, write_over}
use Rattle.nf_bank.proofs.Turns.{SpellsFirst}
use Rattle.nf_bank.proofs.numbering.+numbering.Given as goal

abbrev pub invariant-put_mono-loop-atom : goal.invariant-put_mono-loop-atom
invariant-put_mono-loop-atom l = record {
  kept : with_monomial (monomial_of (map atom_in (drop l.atom-index l.atom-items))) l.bank ≡ with_monomial (monomial_in l.mono) l.initial.bank;
  whole : monomial_of (map atom_in l.atom-items) ≡ monomial_in l.mono;
  spelled : SpellsFirst bound_of_number atom_of_number atom_in l.bank l.ids.items l.atom-items l.atom-index;
  front : IsFront l.initial.bank l.bank;
}

abbrev pub invariant-put_sum-loop-mono : goal.invariant-put_sum-loop-mono
invariant-put_sum-loop-mono l = record {
  kept : with_terms (polynomial_of (map term_in (drop l.mono-index l.mono-items))) l.bank ≡ with_terms (polynomial_in l.sum) l.initial.bank;
  whole : polynomial_of (map term_in l.mono-items) ≡ polynomial_in l.sum;
  spelled : SpellsFirst bound_of_term scaled_monomial_over term_in l.bank l.terms.items l.mono-items l.mono-index;
  front : IsFront l.initial.bank l.bank;
}

abbrev pub invariant-put_array-loop-index : goal.invariant-put_array-loop-index
invariant-put_array-loop-index l = record {
  kept : with_writes (writes_of (map write_in (drop l.index-index l.index-items))) l.bank ≡ with_array (array_in l.array) l.initial.bank;
  whole : Over (out-ArrTree l.array).base (writes_of (map write_in l.index-items)) ≡ array_in l.array;
  spelled : SpellsFirst bound_of_write write_over write_in l.bank l.writes.items l.index-items l.index-index;
  front : IsFront l.initial.bank l.bank;
}
