use Rattle.std.proofs.Common.{◌≡◌, ◌+◌, ◌*◌, ◌++◌, map, drop}
use Rattle.nf_trees.specs.NormalTerms.{monomial_of, polynomial_of, writes_of}
use Rattle.nf_trees.specs.View.{atom_in, term_in, write_in}
use Rattle.nf_bank.specs.AtomNumbers.{bound_over, bound_of_number, bound_of_sum, bound_of_array, atom_of_number, scaled_monomial_over, write_over}
use Rattle.nf_bank.specs.AtomNumbers.{monomial_over, sum_over}
use Rattle.nf_bank.proofs.trees.+trees.Given as goal

abbrev pub decreases-atom_tree : goal.decreases-atom_tree
decreases-atom_tree l = 4 * l.id.0 + 3

abbrev pub decreases-mono_tree : goal.decreases-mono_tree
decreases-mono_tree l = 4 * bound_over bound_of_number l.ids.now

abbrev pub decreases-sum_tree : goal.decreases-sum_tree
decreases-sum_tree l = 4 * bound_of_sum l.terms.now + 1

abbrev pub decreases-array_tree : goal.decreases-array_tree
decreases-array_tree l = 4 * bound_of_array l.array.now + 2

abbrev pub invariant-mono_tree-loop-id : goal.invariant-mono_tree-loop-id
invariant-mono_tree-loop-id l = monomial_of (map atom_in l.atoms.items ++ map (atom_of_number l.bank) (drop l.id-index l.ids)) ≡ monomial_over l.bank l.ids

abbrev pub invariant-sum_tree-loop-term : goal.invariant-sum_tree-loop-term
invariant-sum_tree-loop-term l = polynomial_of (map term_in l.monos.items ++ map (scaled_monomial_over l.bank) (drop l.term-index l.terms))
    ≡ sum_over l.bank l.terms

abbrev pub invariant-array_tree-loop-write : goal.invariant-array_tree-loop-write
invariant-array_tree-loop-write l = writes_of (map write_in l.writes.items ++ map (write_over l.bank) (drop l.write-index l.write-items))
    ≡ writes_of (map (write_over l.bank) l.write-items)
