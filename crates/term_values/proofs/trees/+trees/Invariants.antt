use Rattle.std.proofs.Common.{◌≡◌, ◌++◌, map, drop}
use Rattle.nf_trees.specs.NormalTerms as terms
use Rattle.nf_trees.specs.View as view
use Rattle.term_text.specs.declared.tree.WrittenArray.{out-WrittenArray}
use Rattle.term_text.specs.View as text
use Rattle.term_values.specs.TermValues.{within_limit, atom_value, atoms_of, polynomial_value, array_value}
use Rattle.term_values.specs.ListParts.{term_value, write_value, base_value}
use Rattle.term_values.proofs.trees.+trees.Given as goal

abbrev pub invariant-monomial_tree-loop-atom : goal.invariant-monomial_tree-loop-atom
invariant-monomial_tree-loop-atom g l =
    terms.monomial_of
    (map view.atom_in l.atoms.items ++ map (atom_value (within_limit (g.N.Names.find l.names))) (map text.written_atom_in (drop l.atom-index l.atom-items)))
    ≡ atoms_of (within_limit (g.N.Names.find l.names)) (text.written_monomial_in l.monomial) terms.One

abbrev pub invariant-polynomial_tree-loop-minus : goal.invariant-polynomial_tree-loop-minus
invariant-polynomial_tree-loop-minus g l =
    terms.polynomial_of
    (map view.term_in l.monos.items ++ map (term_value (within_limit (g.N.Names.find l.names))) (map text.written_term_in (drop l.minus-index l.minus-items)))
    ≡ polynomial_value (within_limit (g.N.Names.find l.names)) (text.written_polynomial_in l.polynomial)

abbrev pub invariant-array_tree-loop-index : goal.invariant-array_tree-loop-index
invariant-array_tree-loop-index g l = terms.Over (base_value (within_limit (g.N.Names.find l.names)) (text.base_in (out-WrittenArray l.array).base))
    (terms.writes_of
    (map view.write_in l.writes.items ++ map (write_value (within_limit (g.N.Names.find l.names)))
    (map text.written_write_in (drop l.index-index l.index-items)))) ≡ array_value (within_limit (g.N.Names.find l.names))
    (text.written_array_in l.array) terms.NoWrites
