use Rattle.std.proofs.Common.{◌≡◌, ◌++◌, IfOk, map, ap, subst, ◌∙◌, FitsSigned, rules, refl, sym}
use Rattle.std.proofs.lemmas.Result.{IfOk-at_ok}
use Rattle.std.specs.Int.{w128}
use Rattle.std.proofs.lemmas.Int.{to_z-of_z}
use Rattle.nf_trees.specs.NormalTerms as terms
use Rattle.nf_trees.specs.View as view
use Rattle.term_text.specs.declared.tree.WrittenMonomial.{out-WrittenMonomial}
use Rattle.term_text.specs.declared.tree.WrittenArray.{out-WrittenArray}
use Rattle.term_text.specs.View as text
use Rattle.term_values.specs.TermValues.{within_limit, atom_value, atoms_of, polynomial_value, array_value}
use Rattle.term_values.specs.ListParts.{term_value, write_value, base_value}
use Rattle.nf_trees.specs.declared.tree.Atom.TheVariants as tree
use Rattle.nf_trees.specs.declared.tree.Atom.TheFolds.{fold-roll-MonoTree, fold-roll-PolyTree, fold-roll-ArrTree}
use Rattle.nf_trees.proofs.TreeParts.{atom_of_symbol}
use Rattle.term_values.proofs.Lists.{one_made, both_made, whole_list, atom_first, monomial_is, polynomial_is, array_is}
use Rattle.term_values.proofs.WrittenParts.{written_symbol, written_read, written_quotient, written_remainder, head_number, head_atom}
use Rattle.term_values.proofs.trees.+trees.Goals as goal

pub monomial_tree-loop-atom-preserved : goal.monomial_tree-loop-atom-preserved
monomial_tree-loop-atom-preserved g t c =
    let r = within_limit (g.N.Names.find c.args.names.now) in
    ap terms.monomial_of
    (one_made view.atom_in text.written_atom_in (atom_value r) c.atom_tree.result c.loop-atom.atoms.items _ c.deref-atom-items.result.now
    c.loop-atom.atom-index c.atom-item.result c.loop-atom-test.true c.atom-item.is c.in_ok-atoms-2.ensures c.atom_tree.ensures)
    ∙ c.loop-atom.invariant

pub polynomial_tree-loop-minus-preserved : goal.polynomial_tree-loop-minus-preserved
polynomial_tree-loop-minus-preserved g t c =
    let r = within_limit (g.N.Names.find c.args.names.now) in
    let v = term_value r (text.written_term_in c.loop-minus-item.result) in
    let number = c.signed_number-number.result in
    let f : FitsSigned w128 number = search rules in
    let same = to_z-of_z w128 number f ∙ c.signed_number-number.ensures in
    ap terms.polynomial_of
    (one_made view.term_in text.written_term_in (term_value r) c.both-term.result c.loop-minus.monos.items _ c.deref-minus-items.result.now
    c.loop-minus.minus-index c.loop-minus-item.result c.loop-minus-test.true c.loop-minus-item.is c.in_ok-monos.ensures
    (both_made view.monomial_in (λ n. n) c.monomial_tree.result _ c.both-term.result v.0 v.1 c.both-term.ensures.left
    c.both-term.ensures.right c.monomial_tree.ensures same))
    ∙ c.loop-minus.invariant

pub array_tree-loop-index-preserved : goal.array_tree-loop-index-preserved
array_tree-loop-index-preserved g t c =
    let r = within_limit (g.N.Names.find c.args.names.now) in
    let v = write_value r (text.written_write_in c.loop-index-item.result) in
    ap (λ ws. terms.Over (base_value r (text.base_in (out-WrittenArray c.args.array.now).base)) (terms.writes_of ws))
    (one_made view.write_in text.written_write_in (write_value r) c.both-write.result c.loop-index.writes.items _ c.deref-index-items.result.now
    c.loop-index.index-index c.loop-index-item.result c.loop-index-test.true c.loop-index-item.is c.in_ok-writes.ensures
    (both_made view.polynomial_in view.polynomial_in c.polynomial_tree-index.result c.polynomial_tree.result c.both-write.result v.0 v.1
    c.both-write.ensures.left c.both-write.ensures.right c.polynomial_tree-index.ensures c.polynomial_tree.ensures))
    ∙ c.loop-index.invariant

pub monomial_tree-returns : goal.monomial_tree-returns
monomial_tree-returns g t c =
    let r = within_limit (g.N.Names.find c.args.names.now) in
    fold-roll-MonoTree terms.Atom terms.ArrayTerm terms.Monomial terms.Polynomial view.atom_step view.arr_step view.mono_step view.poly_step
    (record { atoms = c.loop-atom.atoms })
    ∙ sym (ap terms.monomial_of (whole_list text.written_atom_in (atom_value r) (map view.atom_in c.loop-atom.atoms.items) c.deref-atom-items.result.now
    c.loop-atom.atom-index c.loop-atom-test.false))
    ∙ c.loop-atom.invariant

pub polynomial_tree-returns : goal.polynomial_tree-returns
polynomial_tree-returns g t c =
    let r = within_limit (g.N.Names.find c.args.names.now) in
    fold-roll-PolyTree terms.Atom terms.ArrayTerm terms.Monomial terms.Polynomial view.atom_step view.arr_step view.mono_step view.poly_step
    (record { monos = c.loop-minus.monos })
    ∙ sym (ap terms.polynomial_of (whole_list text.written_term_in (term_value r) (map view.term_in c.loop-minus.monos.items) c.deref-minus-items.result.now
    c.loop-minus.minus-index c.loop-minus-test.false))
    ∙ c.loop-minus.invariant

pub array_tree-returns : goal.array_tree-returns
array_tree-returns g t c =
    let r = within_limit (g.N.Names.find c.args.names.now) in
    let ws = map view.write_in c.loop-index.writes.items in
    fold-roll-ArrTree terms.Atom terms.ArrayTerm terms.Monomial terms.Polynomial view.atom_step view.arr_step view.mono_step view.poly_step
    (record { base = c.base_tree.result; writes = c.loop-index.writes })
    ∙ ap (λ b. terms.Over b (terms.writes_of ws)) c.base_tree.ensures
    ∙ sym (ap (λ xs. terms.Over (base_value r (text.base_in (out-WrittenArray c.args.array.now).base)) (terms.writes_of xs))
    (whole_list text.written_write_in (write_value r) ws c.deref-index-items.result.now c.loop-index.index-index c.loop-index-test.false))
    ∙ c.loop-index.invariant

pub monomial_tree-loop-atom-init : goal.monomial_tree-loop-atom-init
monomial_tree-loop-atom-init g t c =
    let r = within_limit (g.N.Names.find c.args.names.now) in
    let head = text.head_in (out-WrittenMonomial c.args.monomial.now).head in
    c.in_ok-atoms.ensures (map (atom_value r) (map text.written_atom_in c.deref-atom-items.result.now))
    ∙ ap (λ xs. atoms_of r head (terms.monomial_of (map (atom_value r) (map text.written_atom_in xs)))) c.deref-atom-items.ensures.value
    ∙ sym (monomial_is r c.args.monomial.now)

pub polynomial_tree-loop-minus-init : goal.polynomial_tree-loop-minus-init
polynomial_tree-loop-minus-init g t c =
    let r = within_limit (g.N.Names.find c.args.names.now) in
    (λ j. terms.polynomial_of (map view.term_in (c.new-monos.ensures.items j)
    ++ map (term_value r) (map text.written_term_in (c.deref-minus-items.ensures.value j))))
    ∙ sym (polynomial_is r c.args.polynomial.now)

pub array_tree-loop-index-init : goal.array_tree-loop-index-init
array_tree-loop-index-init g t c =
    let r = within_limit (g.N.Names.find c.args.names.now) in
    let base = base_value r (text.base_in (out-WrittenArray c.args.array.now).base) in
    (λ j. terms.Over base (terms.writes_of (map view.write_in (c.new-writes.ensures.items j)
    ++ map (write_value r) (map text.written_write_in (c.deref-index-items.ensures.value j)))))
    ∙ sym (array_is r c.args.array.now)

-- ---- what an atom and the head of a monomial are made of

pub head_atoms-returns-in-Number : goal.head_atoms-returns-in-Number
head_atoms-returns-in-Number g t c = λ rest. ap (λ xs. terms.monomial_of (map view.atom_in xs ++ rest)) c.new.ensures.items
    ∙ sym (ap (λ h. atoms_of (within_limit (g.N.Names.find c.args.names.now)) h (terms.monomial_of rest)) (head_number c.args.head.now _ c.in-Number.is))

pub head_atoms-returns-in-One : goal.head_atoms-returns-in-One
head_atoms-returns-in-One g t c = atom_first (λ v. v.items) c.push_made.result c.atom_tree.result (within_limit (g.N.Names.find c.args.names.now))
    (text.head_in c.args.head.now) (text.written_atom_in c.in-One.atom) c.new-in-One.result.items c.new-in-One.ensures.items c.push_made.ensures
    c.atom_tree.ensures (head_atom c.args.head.now c.in-One.atom c.in-One.is)

pub atom_tree-returns-in-Symbol : goal.atom_tree-returns-in-Symbol
atom_tree-returns-in-Symbol g t c =
    atom_of_symbol (tree.Sym c.position.result) c.position.result refl ∙ ap terms.Symbol c.position.ensures
    ∙ sym (ap (atom_value (within_limit (g.N.Names.find c.args.names.now)))
    (written_symbol c.args.atom.now c.in-Symbol.side c.in-Symbol.name c.in-Symbol.is))

pub atom_tree-returns-in_ok-array-in-Read : goal.atom_tree-returns-in_ok-array-in-Read
atom_tree-returns-in_ok-array-in-Read g t c =
    let r = within_limit (g.N.Names.find c.args.names.now) in
    let array = IfOk-at_ok _ c.in_ok-array-in-Read.ensures.left c.array_tree-array.ensures in
    let index = IfOk-at_ok _ c.in_ok-array-in-Read.ensures.right c.polynomial_tree.ensures in
    let parts = (λ j. terms.Read (array j) (index j))
    ∙ (λ j. terms.Read (array_value r (text.written_array_in (c.deref.ensures j)) terms.NoWrites)
    (polynomial_value r (text.written_polynomial_in (c.deref-in-Read.ensures j))))
    ∙ sym (ap (atom_value r) (written_read c.args.atom.now c.in-Read.array c.in-Read.index c.in-Read.is)) in
    subst (λ x. IfOk c.make_read.result (λ a. view.atom_in a ≡ x)) parts c.make_read.ensures

pub atom_tree-returns-in_ok-left-in-Quotient : goal.atom_tree-returns-in_ok-left-in-Quotient
atom_tree-returns-in_ok-left-in-Quotient g t c =
    let r = within_limit (g.N.Names.find c.args.names.now) in
    let left = IfOk-at_ok _ c.in_ok-left-in-Quotient.ensures.left c.polynomial_tree-left.ensures in
    let right = IfOk-at_ok _ c.in_ok-left-in-Quotient.ensures.right c.polynomial_tree-in-Quotient.ensures in
    let parts = (λ j. terms.Quotient (left j) (right j))
    ∙ (λ j. terms.Quotient (polynomial_value r (text.written_polynomial_in (c.deref-in-Quotient.ensures j)))
    (polynomial_value r (text.written_polynomial_in (c.deref-in-Quotient-2.ensures j))))
    ∙ sym (ap (atom_value r) (written_quotient c.args.atom.now c.in-Quotient.left c.in-Quotient.right c.in-Quotient.is)) in
    subst (λ x. IfOk c.make_quotient.result (λ a. view.atom_in a ≡ x)) parts c.make_quotient.ensures

pub atom_tree-returns-in_ok-left-in-Remainder : goal.atom_tree-returns-in_ok-left-in-Remainder
atom_tree-returns-in_ok-left-in-Remainder g t c =
    let r = within_limit (g.N.Names.find c.args.names.now) in
    let left = IfOk-at_ok _ c.in_ok-left-in-Remainder.ensures.left c.polynomial_tree-left-in-Remainder.ensures in
    let right = IfOk-at_ok _ c.in_ok-left-in-Remainder.ensures.right c.polynomial_tree-in-Remainder.ensures in
    let parts = (λ j. terms.Remainder (left j) (right j))
    ∙ (λ j. terms.Remainder (polynomial_value r (text.written_polynomial_in (c.deref-in-Remainder.ensures j)))
    (polynomial_value r (text.written_polynomial_in (c.deref-in-Remainder-2.ensures j))))
    ∙ sym (ap (atom_value r) (written_remainder c.args.atom.now c.in-Remainder.left c.in-Remainder.right c.in-Remainder.is)) in
    subst (λ x. IfOk c.make_remainder.result (λ a. view.atom_in a ≡ x)) parts c.make_remainder.ensures
