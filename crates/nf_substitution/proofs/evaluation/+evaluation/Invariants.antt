use Rattle.std.proofs.Common.{◌≡◌, ◌+◌, ◌*◌, map, drop}
use Rattle.nf_trees.specs.NormalTerms.{monomial_of, polynomial_of, writes_of}
use Rattle.nf_bank.specs.AtomNumbers.{bound_over, bound_of_number, bound_of_term, bound_of_sum, bound_of_write, bound_of_array, bound_of_node}
use Rattle.nf_bank.specs.AtomNumbers.{atom_of_number, scaled_monomial_over, write_over}
use Rattle.nf_bank.specs.AtomNumbers.{monomial_over, sum_over, array_over}
use Rattle.nf_substitution.specs.Substitution.{atoms_substituted, terms_substituted, writes_substituted, polynomial_substituted, array_substituted}
use Rattle.nf_substitution.specs.Keeping.{AreValues}
use Rattle.nf_substitution.proofs.evaluation.+evaluation.Given as goal

abbrev pub decreases-number_value : goal.decreases-number_value
decreases-number_value l = 8 * l.id.0 + 7

abbrev pub decreases-atom_value : goal.decreases-atom_value
decreases-atom_value l = 8 * bound_of_node l.node.now + 6

abbrev pub decreases-product_value : goal.decreases-product_value
decreases-product_value l = 8 * bound_over bound_of_number l.atoms.now

abbrev pub decreases-monomial_value : goal.decreases-monomial_value
decreases-monomial_value l = 8 * bound_over bound_of_number l.atoms.now + 1

abbrev pub decreases-term_value : goal.decreases-term_value
decreases-term_value l = 8 * bound_of_term l.term.now + 2

abbrev pub decreases-sum_value : goal.decreases-sum_value
decreases-sum_value l = 8 * bound_of_sum l.terms.now + 3

abbrev pub decreases-written_value : goal.decreases-written_value
decreases-written_value l = 8 * bound_of_write l.entry.now + 4

abbrev pub decreases-array_value : goal.decreases-array_value
decreases-array_value l = 8 * bound_of_array l.array.now + 5

abbrev pub invariant-product_value-loop-id : goal.invariant-product_value-loop-id
invariant-product_value-loop-id l = record {
  answers : atoms_substituted l.vector (monomial_of (map (atom_of_number l.bank) (drop l.id-index l.atoms))) l.so_far
      ≡ atoms_substituted l.vector (monomial_over l.bank l.atoms) l.initial.so_far;
  known : AreValues l.vector l.bank l.memo;
}

abbrev pub invariant-sum_value-loop-term : goal.invariant-sum_value-loop-term
invariant-sum_value-loop-term l = record {
  answers : terms_substituted l.vector (polynomial_of (map (scaled_monomial_over l.bank) (drop l.term-index l.term-items))) l.so_far
      ≡ polynomial_substituted l.vector (sum_over l.bank l.terms);
  known : AreValues l.vector l.bank l.memo;
}

abbrev pub invariant-array_value-loop-entry : goal.invariant-array_value-loop-entry
invariant-array_value-loop-entry l = record {
  answers : writes_substituted l.vector (writes_of (map (write_over l.bank) (drop l.entry-index l.entry-items))) l.so_far
      ≡ array_substituted l.vector (array_over l.bank l.array);
  known : AreValues l.vector l.bank l.memo;
}
