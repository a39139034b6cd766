use Rattle.std.proofs.Common.{◌≡◌, ◌≤◌, IfOk, map, ap, sym, subst, arith, ◌∙◌}
use Rattle.nf_trees.specs.NormalTerms.{Read, Quotient, Remainder, monomial_of, polynomial_of, writes_of, Over}
use Rattle.nf_trees.specs.View.{atom_in, monomial_in, polynomial_in, term_in, write_in}
use Rattle.nf_trees.proofs.Degrees.{monomial_in-is}
use Rattle.nf_trees.proofs.Loops.{all_there}
use Rattle.nf_trees.proofs.TreeParts.{polynomial_of_terms, array_over_writes}
use Rattle.nf_bank.specs.AtomNumbers.{bound_of_node, bound_of_sum, atom_of_number, atom_over, scaled_monomial_over, write_over, monomial_over, sum_over}
use Rattle.nf_bank.proofs.Made.{one_made}
use Rattle.nf_bank.proofs.trees.+trees.Goals as goal

pub mono_tree-returns : goal.mono_tree-returns
mono_tree-returns t c =
    monomial_in-is _
    ∙ ap monomial_of
    (all_there (atom_of_number c.args.bank.now) (map atom_in c.loop-id.atoms.items) c.args.ids.now c.loop-id.id-index c.loop-id-test.false)
    ∙ c.loop-id.invariant

pub sum_tree-loop-term-preserved : goal.sum_tree-loop-term-preserved
sum_tree-loop-term-preserved t c =
    let b = c.args.bank.now in
    let x = c.term-item.result in
    let m = c.in_ok-mono.ensures ∙ ap (monomial_over b) c.as_slice.ensures in
    ap polynomial_of
    (one_made (scaled_monomial_over b) _ _ c.args.terms.now c.loop-term.term-index x (monomial_in c.in_ok-mono.mono, x.coefficient) c.loop-term-test.true
    c.term-item.is (λ k. (m k, x.coefficient)) c.in_ok-push_term.ensures)
    ∙ c.loop-term.invariant

pub sum_tree-returns : goal.sum_tree-returns
sum_tree-returns t c =
    polynomial_of_terms _
    ∙ ap polynomial_of
    (all_there (scaled_monomial_over c.args.bank.now) (map term_in c.loop-term.monos.items) c.args.terms.now c.loop-term.term-index c.loop-term-test.false)
    ∙ c.loop-term.invariant

pub array_tree-loop-write-preserved : goal.array_tree-loop-write-preserved
array_tree-loop-write-preserved t c =
    let b = c.args.bank.now in
    let i = c.in_ok-index.ensures ∙ ap (sum_over b) c.as_slice.ensures in
    let v = c.in_ok-value.ensures ∙ ap (sum_over b) c.as_slice-in-loop-write.ensures in
    ap writes_of
    (one_made (write_over b) _ _ c.as_slice-write-items.result.now c.loop-write.write-index c.write-item.result
    (polynomial_in c.in_ok-index.index, polynomial_in c.in_ok-value.value) c.loop-write-test.true c.write-item.is (λ k. (i k, v k)) c.in_ok-push_write.ensures)
    ∙ c.loop-write.invariant

pub array_tree-returns : goal.array_tree-returns
array_tree-returns t c =
    let b = c.args.bank.now in
    let base = c.args.array.now.base in
    array_over_writes _
    ∙ ap (λ ws. Over base (writes_of ws))
    (all_there (write_over b) (map write_in c.loop-write.writes.items) c.as_slice-write-items.result.now c.loop-write.write-index c.loop-write-test.false)
    ∙ ap (Over base) c.loop-write.invariant
    ∙ ap (λ ws. Over base (writes_of (map (write_over b) ws))) c.as_slice-write-items.ensures

-- ---- an atom is made of the parts of its node, whose numbers are smaller

pub atom_tree-array_tree-requires : goal.atom_tree-array_tree-requires
atom_tree-array_tree-requires t c =
    let within = subst (λ n. bound_of_node n ≤ c.args.id.0) c.in-Read.is c.node.ensures.within in
    (omega (arith, within, c.decreases), omega (arith, within, c.requires))

pub atom_tree-sum_tree-requires : goal.atom_tree-sum_tree-requires
atom_tree-sum_tree-requires t c =
    let within = subst (λ n. bound_of_node n ≤ c.args.id.0) c.in-Read.is c.node.ensures.within in
    let same = ap bound_of_sum c.as_slice.ensures in
    (omega (arith, within, same, c.decreases), omega (arith, within, same, c.requires))

pub atom_tree-returns-in_ok-sum_tree-in-Read : goal.atom_tree-returns-in_ok-sum_tree-in-Read
atom_tree-returns-in_ok-sum_tree-in-Read t c =
    let b = c.args.bank.now in
    let index = c.in_ok-sum_tree-in-Read.ensures ∙ ap (sum_over b) c.as_slice.ensures in
    let parts = (λ j. Read (c.in_ok-array-in-Read.ensures j) (index j)) ∙ sym (ap (atom_over b) c.in-Read.is) ∙ c.node.ensures.atom in
    subst (λ x. IfOk c.make_read.result (λ a. atom_in a ≡ x)) parts c.make_read.ensures

pub atom_tree-sum_tree-requires-in-Div : goal.atom_tree-sum_tree-requires-in-Div
atom_tree-sum_tree-requires-in-Div t c =
    let within = subst (λ n. bound_of_node n ≤ c.args.id.0) c.in-Div.is c.node.ensures.within in
    let same = ap bound_of_sum c.as_slice-in-Div.ensures in
    (omega (arith, within, same, c.decreases), omega (arith, within, same, c.requires))

pub atom_tree-sum_tree-requires-in-Div-2 : goal.atom_tree-sum_tree-requires-in-Div-2
atom_tree-sum_tree-requires-in-Div-2 t c =
    let within = subst (λ n. bound_of_node n ≤ c.args.id.0) c.in-Div.is c.node.ensures.within in
    let same = ap bound_of_sum c.as_slice-in-Div-2.ensures in
    (omega (arith, within, same, c.decreases), omega (arith, within, same, c.requires))

pub atom_tree-returns-in_ok-sum_tree-in-Div : goal.atom_tree-returns-in_ok-sum_tree-in-Div
atom_tree-returns-in_ok-sum_tree-in-Div t c =
    let b = c.args.bank.now in
    let left = c.in_ok-left-in-Div.ensures ∙ ap (sum_over b) c.as_slice-in-Div.ensures in
    let right = c.in_ok-sum_tree-in-Div.ensures ∙ ap (sum_over b) c.as_slice-in-Div-2.ensures in
    let parts = (λ j. Quotient (left j) (right j)) ∙ sym (ap (atom_over b) c.in-Div.is) ∙ c.node.ensures.atom in
    subst (λ x. IfOk c.make_quotient.result (λ a. atom_in a ≡ x)) parts c.make_quotient.ensures

pub atom_tree-sum_tree-requires-in-Rem : goal.atom_tree-sum_tree-requires-in-Rem
atom_tree-sum_tree-requires-in-Rem t c =
    let within = subst (λ n. bound_of_node n ≤ c.args.id.0) c.in-Rem.is c.node.ensures.within in
    let same = ap bound_of_sum c.as_slice-in-Rem.ensures in
    (omega (arith, within, same, c.decreases), omega (arith, within, same, c.requires))

pub atom_tree-sum_tree-requires-in-Rem-2 : goal.atom_tree-sum_tree-requires-in-Rem-2
atom_tree-sum_tree-requires-in-Rem-2 t c =
    let within = subst (λ n. bound_of_node n ≤ c.args.id.0) c.in-Rem.is c.node.ensures.within in
    let same = ap bound_of_sum c.as_slice-in-Rem-2.ensures in
    (omega (arith, within, same, c.decreases), omega (arith, within, same, c.requires))

pub atom_tree-returns-in_ok-sum_tree-in-Rem : goal.atom_tree-returns-in_ok-sum_tree-in-Rem
atom_tree-returns-in_ok-sum_tree-in-Rem t c =
    let b = c.args.bank.now in
    let left = c.in_ok-left-in-Rem.ensures ∙ ap (sum_over b) c.as_slice-in-Rem.ensures in
    let right = c.in_ok-sum_tree-in-Rem.ensures ∙ ap (sum_over b) c.as_slice-in-Rem-2.ensures in
    let parts = (λ j. Remainder (left j) (right j)) ∙ sym (ap (atom_over b) c.in-Rem.is) ∙ c.node.ensures.atom in
    subst (λ x. IfOk c.make_remainder.result (λ a. atom_in a ≡ x)) parts c.make_remainder.ensures
