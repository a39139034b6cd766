use Rattle.std.proofs.Common.{◌≡◌, length, sym, ap, subst, arith, ◌∙◌}
use Rattle.std.specs.Ordering.{nat_cmp, ordering_then}
use Rattle.std.specs.Slice.{IsItemAt}
use Rattle.nf_trees.specs.NormalTerms.{Symbol}
use Rattle.nf_trees.specs.Order.{cmp_atom, cmp_array, cmp_polynomial}
use Rattle.nf_trees.specs.View.{atom_in, polynomial_in, array_in}
use Rattle.nf_trees.proofs.TreeParts.{atom_of_symbol, atom_of_read, atom_of_quotient, atom_of_remainder}
use Rattle.nf_trees.proofs.Degrees.{same_degree}
use Rattle.nf_trees.proofs.Compared.{terms_compared, writes_compared, compare_atom_lists, compare_term_lists, compare_write_lists}
use Rattle.nf_trees.proofs.Compared.{atom_lists, term_lists, write_lists, right_ends, left_ends, both_end, decided, tied}
use Rattle.nf_trees.proofs.order.+orders.Goals as goal

pub compare_monos-returns-in_default-get : goal.compare_monos-returns-in_default-get
compare_monos-returns-in_default-get t c =
    let i = c.loop-i.i in
    let found : IsItemAt _ i c.get.result = subst (λ rs. IsItemAt rs i c.get.result) c.deref.ensures.value c.get.ensures.lookup in
    sym (right_ends _ compare_atom_lists atom_lists c.deref-a-items.result.now c.args.r.now.atoms.items i c.get.result found
    c.a-item.result c.loop-i-test.true c.a-item.is c.in_default-get.is)
    ∙ c.loop-i.invariant

pub compare_monos-returns-in_default-compare_atoms : goal.compare_monos-returns-in_default-compare_atoms
compare_monos-returns-in_default-compare_atoms t c =
    let i = c.loop-i.i in
    let found : IsItemAt _ i c.get.result = subst (λ rs. IsItemAt rs i c.get.result) c.deref.ensures.value c.get.ensures.lookup in
    sym (decided _ compare_atom_lists atom_lists c.deref-a-items.result.now c.args.r.now.atoms.items i c.get.result found
    c.a-item.result c.in-Some.b c.compare_atoms.result c.loop-i-test.true c.a-item.is c.in-Some.is c.compare_atoms.ensures
    c.in_default-compare_atoms.not-Equal)
    ∙ c.loop-i.invariant

pub compare_monos-loop-i-preserved : goal.compare_monos-loop-i-preserved
compare_monos-loop-i-preserved t c =
    let i = c.loop-i.i in
    let found : IsItemAt _ i c.get.result = subst (λ rs. IsItemAt rs i c.get.result) c.deref.ensures.value c.get.ensures.lookup in
    tied _ compare_atom_lists atom_lists c.deref-a-items.result.now c.args.r.now.atoms.items i c.get.result found
    c.a-item.result c.in-Some.b c.compare_atoms.result c.loop-i-test.true c.a-item.is c.in-Some.is c.compare_atoms.ensures
    c.in-Equal-compare_atoms.is
    ∙ c.loop-i.invariant

pub compare_polys-returns-in_default : goal.compare_polys-returns-in_default
compare_polys-returns-in_default t c =
    let i = c.loop-i.i in
    let found : IsItemAt _ i c.get.result = subst (λ rs. IsItemAt rs i c.get.result) c.deref.ensures.value c.get.ensures.lookup in
    sym (right_ends _ compare_term_lists term_lists c.deref-term-items.result.now _ i c.get.result found
    c.term-item.result c.loop-i-test.true c.term-item.is c.in_default.is)
    ∙ c.loop-i.invariant

pub compare_polys-returns-in_default-then : goal.compare_polys-returns-in_default-then
compare_polys-returns-in_default-then t c =
    let i = c.loop-i.i in
    let found : IsItemAt _ i c.get.result = subst (λ rs. IsItemAt rs i c.get.result) c.deref.ensures.value c.get.ensures.lookup in
    let same = c.then.ensures ∙ ap (λ o. ordering_then o c.cmp.result) c.compare_monos.ensures ∙ ap (ordering_then _) c.cmp.ensures in
    sym (decided _ compare_term_lists term_lists c.deref-term-items.result.now _ i c.get.result found
    c.term-item.result c.in-Some.other c.then.result c.loop-i-test.true c.term-item.is c.in-Some.is same c.in_default-then.not-Equal)
    ∙ c.loop-i.invariant

pub compare_polys-loop-i-preserved : goal.compare_polys-loop-i-preserved
compare_polys-loop-i-preserved t c =
    let i = c.loop-i.i in
    let found : IsItemAt _ i c.get.result = subst (λ rs. IsItemAt rs i c.get.result) c.deref.ensures.value c.get.ensures.lookup in
    let same = c.then.ensures ∙ ap (λ o. ordering_then o c.cmp.result) c.compare_monos.ensures ∙ ap (ordering_then _) c.cmp.ensures in
    tied _ compare_term_lists term_lists c.deref-term-items.result.now _ i c.get.result found
    c.term-item.result c.in-Some.other c.then.result c.loop-i-test.true c.term-item.is c.in-Some.is same c.in-Equal.is
    ∙ c.loop-i.invariant

pub compare_arrs-returns-in_default-get : goal.compare_arrs-returns-in_default-get
compare_arrs-returns-in_default-get t c =
    let i = c.loop-n.n in
    let found : IsItemAt _ i c.get.result = subst (λ rs. IsItemAt rs i c.get.result) c.deref.ensures.value c.get.ensures.lookup in
    sym (right_ends _ compare_write_lists write_lists c.deref-write-items.result.now _ i c.get.result found
    c.write-item.result c.loop-n-test.true c.write-item.is c.in_default-get.is)
    ∙ c.loop-n.invariant

pub compare_arrs-returns-in_default-then : goal.compare_arrs-returns-in_default-then
compare_arrs-returns-in_default-then t c =
    let i = c.loop-n.n in
    let found : IsItemAt _ i c.get.result = subst (λ rs. IsItemAt rs i c.get.result) c.deref.ensures.value c.get.ensures.lookup in
    let same = c.then.ensures ∙ ap (λ o. ordering_then o c.compare_polys-in-loop-n.result) c.compare_polys.ensures
    ∙ ap (ordering_then _) c.compare_polys-in-loop-n.ensures in
    sym (decided _ compare_write_lists write_lists c.deref-write-items.result.now _ i c.get.result found
    c.write-item.result c.in-Some.other c.then.result c.loop-n-test.true c.write-item.is c.in-Some.is same c.in_default-then.not-Equal)
    ∙ c.loop-n.invariant

pub compare_arrs-loop-n-preserved : goal.compare_arrs-loop-n-preserved
compare_arrs-loop-n-preserved t c =
    let i = c.loop-n.n in
    let found : IsItemAt _ i c.get.result = subst (λ rs. IsItemAt rs i c.get.result) c.deref.ensures.value c.get.ensures.lookup in
    let same = c.then.ensures ∙ ap (λ o. ordering_then o c.compare_polys-in-loop-n.result) c.compare_polys.ensures
    ∙ ap (ordering_then _) c.compare_polys-in-loop-n.ensures in
    tied _ compare_write_lists write_lists c.deref-write-items.result.now _ i c.get.result found
    c.write-item.result c.in-Some.other c.then.result c.loop-n-test.true c.write-item.is c.in-Some.is same c.in-Equal-then.is
    ∙ c.loop-n.invariant

pub compare_polys-returns-in-Some-get : goal.compare_polys-returns-in-Some-get
compare_polys-returns-in-Some-get t c =
    let ls = c.deref-term-items.result.now in
    let place : c.len.result ≡ c.loop-i.i =
    omega (arith, c.loop-i-test.false, c.loop-i.auto.i-end, c.deref-term-items.ensures.len, c.len.ensures) in
    let found : IsItemAt _ c.loop-i.i c.get-2.result = subst (λ rs. IsItemAt rs c.loop-i.i c.get-2.result) c.deref-2.ensures.value
    (subst (λ n. IsItemAt c.deref-2.result.now n c.get-2.result) place c.get-2.ensures.lookup) in
    sym (left_ends _ compare_term_lists term_lists ls _ c.loop-i.i c.get-2.result found c.in-Some-get.field-0
    (omega (arith, c.loop-i-test.false)) c.in-Some-get.is)
    ∙ c.loop-i.invariant

pub compare_polys-returns-in-None : goal.compare_polys-returns-in-None
compare_polys-returns-in-None t c =
    let ls = c.deref-term-items.result.now in
    let place : c.len.result ≡ c.loop-i.i =
    omega (arith, c.loop-i-test.false, c.loop-i.auto.i-end, c.deref-term-items.ensures.len, c.len.ensures) in
    let found : IsItemAt _ c.loop-i.i c.get-2.result = subst (λ rs. IsItemAt rs c.loop-i.i c.get-2.result) c.deref-2.ensures.value
    (subst (λ n. IsItemAt c.deref-2.result.now n c.get-2.result) place c.get-2.ensures.lookup) in
    sym (both_end _ compare_term_lists term_lists ls _ c.loop-i.i c.get-2.result found (omega (arith, c.loop-i-test.false)) c.in-None.is)
    ∙ c.loop-i.invariant

pub compare_polys-loop-i-init : goal.compare_polys-loop-i-init
compare_polys-loop-i-init t c = terms_compared c.args.l.now c.args.r.now c.deref-term-items.result.now c.deref-term-items.ensures.value

pub compare_arrs-returns-in-Some-get : goal.compare_arrs-returns-in-Some-get
compare_arrs-returns-in-Some-get t c =
    let ls = c.deref-write-items.result.now in
    let place : c.len.result ≡ c.loop-n.n =
    omega (arith, c.loop-n-test.false, c.loop-n.auto.n-end, c.deref-write-items.ensures.len, c.len.ensures) in
    let found : IsItemAt _ c.loop-n.n c.get-2.result = subst (λ rs. IsItemAt rs c.loop-n.n c.get-2.result) c.deref-2.ensures.value
    (subst (λ n. IsItemAt c.deref-2.result.now n c.get-2.result) place c.get-2.ensures.lookup) in
    sym (left_ends _ compare_write_lists write_lists ls _ c.loop-n.n c.get-2.result found c.in-Some-get.field-0
    (omega (arith, c.loop-n-test.false)) c.in-Some-get.is)
    ∙ c.loop-n.invariant

pub compare_arrs-returns-in-None : goal.compare_arrs-returns-in-None
compare_arrs-returns-in-None t c =
    let ls = c.deref-write-items.result.now in
    let place : c.len.result ≡ c.loop-n.n =
    omega (arith, c.loop-n-test.false, c.loop-n.auto.n-end, c.deref-write-items.ensures.len, c.len.ensures) in
    let found : IsItemAt _ c.loop-n.n c.get-2.result = subst (λ rs. IsItemAt rs c.loop-n.n c.get-2.result) c.deref-2.ensures.value
    (subst (λ n. IsItemAt c.deref-2.result.now n c.get-2.result) place c.get-2.ensures.lookup) in
    sym (both_end _ compare_write_lists write_lists ls _ c.loop-n.n c.get-2.result found (omega (arith, c.loop-n-test.false)) c.in-None.is)
    ∙ c.loop-n.invariant

pub compare_arrs-loop-n-init : goal.compare_arrs-loop-n-init
compare_arrs-loop-n-init t c = writes_compared c.args.l.now c.args.r.now c.deref-write-items.result.now c.deref-write-items.ensures.value
    (sym c.compare_bases.ensures ∙ c.in-Equal.is)

pub compare_monos-loop-i-init : goal.compare_monos-loop-i-init
compare_monos-loop-i-init t c =
    let l = c.args.l.now in
    let r = c.args.r.now in
    let ours : c.len-2.result ≡ length l.atoms.items = omega (arith, l.atoms.ok.0, c.len-2.ensures) in
    let theirs : c.len.result ≡ length r.atoms.items = omega (arith, r.atoms.ok.0, c.len.ensures) in
    ap (λ xs. compare_atom_lists xs r.atoms.items) c.deref-a-items.ensures.value
    ∙ sym (same_degree l r
    (ap (λ n. nat_cmp n (length l.atoms.items)) (sym theirs) ∙ ap (nat_cmp c.len.result) (sym ours) ∙ sym c.cmp.ensures ∙ c.in-Equal.is))

pub compare_atoms-returns-in-Sym-r : goal.compare_atoms-returns-in-Sym-r
compare_atoms-returns-in-Sym-r t c =
    c.compare_pos.ensures
    ∙ sym (ap (λ a. cmp_atom a (atom_in c.args.r.now)) (atom_of_symbol c.args.l.now c.in-Sym.p c.in-Sym.is)
    ∙ ap (cmp_atom (Symbol c.in-Sym.p)) (atom_of_symbol c.args.r.now c.in-Sym-r.q c.in-Sym-r.is))

pub compare_atoms-returns-in-Read-r-2 : goal.compare_atoms-returns-in-Read-r-2
compare_atoms-returns-in-Read-r-2 t c =
    let arrays = c.compare_arrs.ensures ∙ (λ k. cmp_array (array_in (c.deref.ensures k)) (array_in (c.deref-in-Read-r-2.ensures k))) in
    let indices = c.compare_polys.ensures
    ∙ (λ k. cmp_polynomial (polynomial_in (c.deref-in-Read-r-2-2.ensures k)) (polynomial_in (c.deref-in-Read-r-2-3.ensures k))) in
    c.then.ensures
    ∙ (λ k. ordering_then (arrays k) (indices k))
    ∙ sym (λ k. cmp_atom (atom_of_read c.args.l.now c.in-Read.a c.in-Read.i c.in-Read.is k)
    (atom_of_read c.args.r.now c.in-Read-r-2.b c.in-Read-r-2.j c.in-Read-r-2.is k))

pub compare_atoms-returns-in-Div-r-2 : goal.compare_atoms-returns-in-Div-r-2
compare_atoms-returns-in-Div-r-2 t c =
    let left = c.compare_polys-in-Div-r-2.ensures
    ∙ (λ k. cmp_polynomial (polynomial_in (c.deref-in-Div-r-2.ensures k)) (polynomial_in (c.deref-in-Div-r-2-2.ensures k))) in
    let right = c.compare_polys-in-Div-r-2-2.ensures
    ∙ (λ k. cmp_polynomial (polynomial_in (c.deref-in-Div-r-2-3.ensures k)) (polynomial_in (c.deref-in-Div-r-2-4.ensures k))) in
    c.then-in-Div-r-2.ensures
    ∙ (λ k. ordering_then (left k) (right k))
    ∙ sym (λ k. cmp_atom (atom_of_quotient c.args.l.now c.in-Div.a c.in-Div.b c.in-Div.is k)
    (atom_of_quotient c.args.r.now c.in-Div-r-2.c c.in-Div-r-2.d c.in-Div-r-2.is k))

pub compare_atoms-returns-in-Rem-r-2 : goal.compare_atoms-returns-in-Rem-r-2
compare_atoms-returns-in-Rem-r-2 t c =
    let left = c.compare_polys-in-Rem-r-2.ensures
    ∙ (λ k. cmp_polynomial (polynomial_in (c.deref-in-Rem-r-2.ensures k)) (polynomial_in (c.deref-in-Rem-r-2-2.ensures k))) in
    let right = c.compare_polys-in-Rem-r-2-2.ensures
    ∙ (λ k. cmp_polynomial (polynomial_in (c.deref-in-Rem-r-2-3.ensures k)) (polynomial_in (c.deref-in-Rem-r-2-4.ensures k))) in
    c.then-in-Rem-r-2.ensures
    ∙ (λ k. ordering_then (left k) (right k))
    ∙ sym (λ k. cmp_atom (atom_of_remainder c.args.l.now c.in-Rem.a c.in-Rem.b c.in-Rem.is k)
    (atom_of_remainder c.args.r.now c.in-Rem-r-2.c c.in-Rem-r-2.d c.in-Rem-r-2.is k))
