use Rattle.std.proofs.Common.{◌≡◌, IfOk, ap, subst, sym, ◌∙◌, [], ◌∷◌, ◌++◌, map}
use Rattle.nf_trees.specs.NormalTerms.{Read, Quotient, Remainder, monomial_of, polynomial_of, writes_of, Over}
use Rattle.nf_trees.specs.View.{atom_in, polynomial_in, array_in, term_in, write_in}
use Rattle.nf_trees.specs.declared.tree.ArrTree.{out-ArrTree}
use Rattle.nf_trees.proofs.TreeParts.{atom_of_read, atom_of_quotient, atom_of_remainder, polynomial_of_terms, array_over_writes}
use Rattle.nf_trees.proofs.Degrees.{monomial_in-is}
use Rattle.nf_trees.proofs.Compared.{array_in-is, polynomial_in-is}
use Rattle.nf_trees.proofs.Loops.{append_moves_mapped, all_there, copied}
use Rattle.nf_trees.proofs.tree.+clones.Goals as goal

pub MonoTree::try_clone-loop-atom-preserved : goal.MonoTree::try_clone-loop-atom-preserved
MonoTree::try_clone-loop-atom-preserved t c =
    let old = map atom_in c.loop-atom.atoms.items in
    ap monomial_of
    (append_moves_mapped atom_in old _ c.deref-atom-items.result.now c.loop-atom.atom-index c.atom-item.result c.loop-atom-test.true c.atom-item.is
    (c.in_ok-push_atom.ensures ∙ ap (λ a. old ++ a ∷ []) c.in_ok-try_clone.ensures))
    ∙ c.loop-atom.invariant

pub PolyTree::try_clone-loop-mono-preserved : goal.PolyTree::try_clone-loop-mono-preserved
PolyTree::try_clone-loop-mono-preserved t c =
    let old = map term_in c.loop-mono.monos.items in
    let x = c.loop-mono-item.result in
    ap polynomial_of
    (append_moves_mapped term_in old _ c.deref-mono-items.result.now c.loop-mono.mono-index x c.loop-mono-test.true c.loop-mono-item.is
    (c.in_ok-push_term.ensures ∙ ap (λ m. old ++ (m, x.1) ∷ []) c.in_ok-try_clone.ensures))
    ∙ c.loop-mono.invariant

pub ArrTree::try_clone-loop-index-preserved : goal.ArrTree::try_clone-loop-index-preserved
ArrTree::try_clone-loop-index-preserved t c =
    let old = map write_in c.loop-index.writes.items in
    let index = copied polynomial_in c.try_clone.ensures c.in_ok-index.ensures.left in
    let value = copied polynomial_in c.try_clone-in-loop-index.ensures c.in_ok-index.ensures.right in
    ap (λ ws. Over (out-ArrTree c.args.self.now).base (writes_of ws))
    (append_moves_mapped write_in old _ c.deref-index-items.result.now c.loop-index.index-index c.loop-index-item.result c.loop-index-test.true
    c.loop-index-item.is
    (c.in_ok-push_write.ensures ∙ (λ j. old ++ (index j, value j) ∷ [])))
    ∙ c.loop-index.invariant

pub MonoTree::try_clone-returns : goal.MonoTree::try_clone-returns
MonoTree::try_clone-returns t c =
    monomial_in-is _
    ∙ ap monomial_of (all_there atom_in (map atom_in c.loop-atom.atoms.items) c.deref-atom-items.result.now c.loop-atom.atom-index c.loop-atom-test.false)
    ∙ c.loop-atom.invariant

pub PolyTree::try_clone-returns : goal.PolyTree::try_clone-returns
PolyTree::try_clone-returns t c =
    polynomial_of_terms _
    ∙ ap polynomial_of (all_there term_in (map term_in c.loop-mono.monos.items) c.deref-mono-items.result.now c.loop-mono.mono-index c.loop-mono-test.false)
    ∙ c.loop-mono.invariant

pub ArrTree::try_clone-returns : goal.ArrTree::try_clone-returns
ArrTree::try_clone-returns t c =
    array_over_writes _
    ∙ ap (λ ws. Over (out-ArrTree c.args.self.now).base (writes_of ws))
    (all_there write_in (map write_in c.loop-index.writes.items) c.deref-index-items.result.now c.loop-index.index-index c.loop-index-test.false)
    ∙ c.loop-index.invariant

pub Atom::try_clone-returns-in_ok-array-in-Read : goal.Atom::try_clone-returns-in_ok-array-in-Read
Atom::try_clone-returns-in_ok-array-in-Read t c =
    let array = copied array_in c.try_clone.ensures c.in_ok-array-in-Read.ensures.left in
    let index = copied polynomial_in c.try_clone-in-Read.ensures c.in_ok-array-in-Read.ensures.right in
    let parts = (λ j. Read (array j) (index j))
    ∙ (λ j. Read (array_in (c.deref.ensures j)) (polynomial_in (c.deref-in-Read.ensures j)))
    ∙ sym (atom_of_read c.args.self.now c.in-Read.array c.in-Read.index c.in-Read.is) in
    subst (λ x. IfOk c.make_read.result (λ a. atom_in a ≡ x)) parts c.make_read.ensures

pub Atom::try_clone-returns-in_ok-left-in-Div : goal.Atom::try_clone-returns-in_ok-left-in-Div
Atom::try_clone-returns-in_ok-left-in-Div t c =
    let left = copied polynomial_in c.try_clone-in-Div.ensures c.in_ok-left-in-Div.ensures.left in
    let right = copied polynomial_in c.try_clone-in-Div-2.ensures c.in_ok-left-in-Div.ensures.right in
    let parts = (λ j. Quotient (left j) (right j))
    ∙ (λ j. Quotient (polynomial_in (c.deref-in-Div.ensures j)) (polynomial_in (c.deref-in-Div-2.ensures j)))
    ∙ sym (atom_of_quotient c.args.self.now c.in-Div.left c.in-Div.right c.in-Div.is) in
    subst (λ x. IfOk c.make_quotient.result (λ a. atom_in a ≡ x)) parts c.make_quotient.ensures

pub Atom::try_clone-returns-in_ok-left-in-Rem : goal.Atom::try_clone-returns-in_ok-left-in-Rem
Atom::try_clone-returns-in_ok-left-in-Rem t c =
    let left = copied polynomial_in c.try_clone-in-Rem.ensures c.in_ok-left-in-Rem.ensures.left in
    let right = copied polynomial_in c.try_clone-in-Rem-2.ensures c.in_ok-left-in-Rem.ensures.right in
    let parts = (λ j. Remainder (left j) (right j))
    ∙ (λ j. Remainder (polynomial_in (c.deref-in-Rem.ensures j)) (polynomial_in (c.deref-in-Rem-2.ensures j)))
    ∙ sym (atom_of_remainder c.args.self.now c.in-Rem.left c.in-Rem.right c.in-Rem.is) in
    subst (λ x. IfOk c.make_remainder.result (λ a. atom_in a ≡ x)) parts c.make_remainder.ensures

pub Atom::try_clone-returns-in-Sym : goal.Atom::try_clone-returns-in-Sym
Atom::try_clone-returns-in-Sym t c = ap atom_in (sym c.in-Sym.is)

pub MonoTree::try_clone-loop-atom-init : goal.MonoTree::try_clone-loop-atom-init
MonoTree::try_clone-loop-atom-init t c =
    ap (λ ys. monomial_of (map atom_in ys ++ map atom_in c.deref-atom-items.result.now)) c.in_ok-atoms.ensures.items
    ∙ ap (λ xs. monomial_of (map atom_in xs)) c.deref-atom-items.ensures.value
    ∙ sym (monomial_in-is c.args.self.now)

pub PolyTree::try_clone-loop-mono-init : goal.PolyTree::try_clone-loop-mono-init
PolyTree::try_clone-loop-mono-init t c =
    ap (λ ys. polynomial_of (map term_in ys ++ map term_in c.deref-mono-items.result.now)) c.in_ok-monos.ensures.items
    ∙ ap (λ xs. polynomial_of (map term_in xs)) c.deref-mono-items.ensures.value
    ∙ sym (polynomial_in-is c.args.self.now)

pub ArrTree::try_clone-loop-index-init : goal.ArrTree::try_clone-loop-index-init
ArrTree::try_clone-loop-index-init t c =
    ap (λ ys. Over (out-ArrTree c.args.self.now).base (writes_of (map write_in ys ++ map write_in c.deref-index-items.result.now))) c.in_ok-writes.ensures.items
    ∙ ap (λ xs. Over (out-ArrTree c.args.self.now).base (writes_of (map write_in xs))) c.deref-index-items.ensures.value
    ∙ sym (array_in-is c.args.self.now)
