use Rattle.std.proofs.Common.{◌≡◌, arith, ap, sym, subst, ◌∙◌, map, refl}
use Rattle.std.proofs.lemmas.List.{at_drop_all}
use Rattle.std.proofs.lemmas.Grind.{common_steps}
use Rattle.nf_trees.specs.NormalTerms.{Atom, Monomial, Polynomial, ArrayTerm, Read, Quotient, Remainder, monomial_of, polynomial_of, writes_of}
use Rattle.nf_trees.specs.declared.tree.Atom.TheFolds.{fold-roll-Atom}
use Rattle.nf_trees.specs.declared.tree.Atom.TheVariants.{rolls-Read, rolls-Div, rolls-Rem}
use Rattle.nf_trees.specs.declared.tree.Atom.TheOpen as open_tree
use Rattle.nf_trees.specs.View.{atom_step, arr_step, mono_step, poly_step, atom_in, monomial_in, polynomial_in, array_in, term_in, write_in}
use Rattle.nf_trees.specs.declared.tree.ArrTree.{out-ArrTree}
use Rattle.nf_bank.specs.declared.node.Node.TheVariants as node
use Rattle.nf_bank.specs.Atoms.{with_monomial, with_terms, with_writes, with_array, with_inner}
use Rattle.nf_bank.specs.AtomNumbers.{SpellsSum, SpellsArray, SpellsAtom, bound_of_number, bound_of_term, bound_of_write, atom_of_number, scaled_monomial_over}
use Rattle.nf_bank.specs.AtomNumbers.{write_over}
use Rattle.nf_bank.proofs.Fronts.{front_same, front_trans}
use Rattle.nf_bank.proofs.Growing.{numbers_grow, terms_grow, writes_grow, read_spelled, quotient_spelled, remainder_spelled}
use Rattle.nf_bank.proofs.Turns.{append_spells_first, monomial_spelled, sum_spelled, array_spelled, number_spells, term_spells, write_spells}
use Rattle.nf_bank.proofs.numbering.+numbering.Goals as goal

pub put_mono-loop-atom-preserved : goal.put_mono-loop-atom-preserved
put_mono-loop-atom-preserved t c =
    let x = c.atom-item.result in
    let s = number_spells c.put_atom.new.bank c.in_ok-id.id (atom_in x) c.in_ok-id.ensures.place in
    record {
      kept = grind (arith, common_steps);
      whole = c.loop-atom.invariant.whole;
      spelled = rw c.in_ok-push.ensures.items
          (append_spells_first bound_of_number atom_of_number atom_in numbers_grow c.loop-atom.bank c.put_atom.new.bank c.loop-atom.ids.items
          c.deref-atom-items.result.now
          c.loop-atom.atom-index c.in_ok-id.id x c.loop-atom.invariant.spelled c.in_ok-id.ensures.front c.loop-atom-test.true c.atom-item.is s);
      front = front_trans _ _ _ c.loop-atom.invariant.front c.in_ok-id.ensures.front;
    }

pub put_mono-returns-clause-kept : goal.put_mono-returns-clause-kept
put_mono-returns-clause-kept t c =
    sym (at_drop_all (λ ys. with_monomial (monomial_of (map atom_in ys)) c.loop-atom.bank)
    c.deref-atom-items.result.now c.loop-atom.atom-index c.loop-atom-test.false)
    ∙ c.loop-atom.invariant.kept

pub put_mono-returns-clause-front : goal.put_mono-returns-clause-front
put_mono-returns-clause-front t c = c.loop-atom.invariant.front

pub put_mono-returns-in_err-id-clause-front : goal.put_mono-returns-in_err-id-clause-front
put_mono-returns-in_err-id-clause-front t c = front_trans _ _ _ c.loop-atom.invariant.front c.in_err-id.ensures.front

pub put_mono-returns-in_err-push-clause-front : goal.put_mono-returns-in_err-push-clause-front
put_mono-returns-in_err-push-clause-front t c = front_trans _ _ _ c.loop-atom.invariant.front c.in_ok-id.ensures.front

pub put_mono-returns-clause-spelled : goal.put_mono-returns-clause-spelled
put_mono-returns-clause-spelled t c = monomial_spelled c.loop-atom.bank c.loop-atom.ids.items c.new.result c.deref-atom-items.result.now c.loop-atom.atom-index
    (monomial_in c.args.mono.now) c.loop-atom.invariant.spelled c.loop-atom-test.false c.new.ensures c.loop-atom.invariant.whole

pub put_sum-loop-mono-preserved : goal.put_sum-loop-mono-preserved
put_sum-loop-mono-preserved t c =
    let x = c.loop-mono-item.result in
    let s = term_spells c.put_mono.new.bank c.new.result c.in_ok-atoms.atoms x c.new.ensures c.in_ok-atoms.ensures.spelled in
    record {
      kept = grind (arith, common_steps);
      whole = c.loop-mono.invariant.whole;
      spelled = rw c.in_ok-push.ensures.items
          (append_spells_first bound_of_term scaled_monomial_over term_in terms_grow c.loop-mono.bank c.put_mono.new.bank c.loop-mono.terms.items
          c.deref-mono-items.result.now c.loop-mono.mono-index c.new.result x c.loop-mono.invariant.spelled c.in_ok-atoms.ensures.front c.loop-mono-test.true
          c.loop-mono-item.is s);
      front = front_trans _ _ _ c.loop-mono.invariant.front c.in_ok-atoms.ensures.front;
    }

pub put_sum-returns-clause-kept : goal.put_sum-returns-clause-kept
put_sum-returns-clause-kept t c =
    sym (at_drop_all (λ ys. with_terms (polynomial_of (map term_in ys)) c.loop-mono.bank)
    c.deref-mono-items.result.now c.loop-mono.mono-index c.loop-mono-test.false)
    ∙ c.loop-mono.invariant.kept

pub put_sum-returns-clause-front : goal.put_sum-returns-clause-front
put_sum-returns-clause-front t c = c.loop-mono.invariant.front

pub put_sum-returns-in_err-atoms-clause-front : goal.put_sum-returns-in_err-atoms-clause-front
put_sum-returns-in_err-atoms-clause-front t c = front_trans _ _ _ c.loop-mono.invariant.front c.in_err-atoms.ensures.front

pub put_sum-returns-in_err-push-clause-front : goal.put_sum-returns-in_err-push-clause-front
put_sum-returns-in_err-push-clause-front t c = front_trans _ _ _ c.loop-mono.invariant.front c.in_ok-atoms.ensures.front

pub put_sum-returns-clause-spelled : goal.put_sum-returns-clause-spelled
put_sum-returns-clause-spelled t c = sum_spelled c.loop-mono.bank c.loop-mono.terms.items c.new-2.result c.deref-mono-items.result.now c.loop-mono.mono-index
    (polynomial_in c.args.sum.now) c.loop-mono.invariant.spelled c.loop-mono-test.false c.new-2.ensures c.loop-mono.invariant.whole

pub put_array-loop-index-preserved : goal.put_array-loop-index-preserved
put_array-loop-index-preserved t c =
    let x = c.loop-index-item.result in
    let f = c.in_ok-index.ensures.front in
    let g = c.in_ok-value.ensures.front in
    let s = write_spells c.put_sum.new.bank c.put_sum-in-loop-index.new.bank c.in_ok-index.index c.in_ok-value.value x g c.in_ok-index.ensures.spelled
    c.in_ok-value.ensures.spelled in
    let h = front_trans c.loop-index.bank c.put_sum.new.bank c.put_sum-in-loop-index.new.bank f g in
    record {
      kept = grind (arith, common_steps);
      whole = c.loop-index.invariant.whole;
      spelled = rw c.in_ok-push.ensures.items
          (append_spells_first bound_of_write write_over write_in writes_grow c.loop-index.bank c.put_sum-in-loop-index.new.bank c.loop-index.writes.items
          c.deref-index-items.result.now c.loop-index.index-index _ x c.loop-index.invariant.spelled h c.loop-index-test.true c.loop-index-item.is s);
      front = front_trans _ _ _ c.loop-index.invariant.front h;
    }

pub put_array-returns-clause-kept : goal.put_array-returns-clause-kept
put_array-returns-clause-kept t c =
    sym (at_drop_all (λ ys. with_writes (writes_of (map write_in ys)) c.loop-index.bank)
    c.deref-index-items.result.now c.loop-index.index-index c.loop-index-test.false)
    ∙ c.loop-index.invariant.kept

pub put_array-returns-clause-front : goal.put_array-returns-clause-front
put_array-returns-clause-front t c = c.loop-index.invariant.front

pub put_array-returns-in_err-index-clause-front : goal.put_array-returns-in_err-index-clause-front
put_array-returns-in_err-index-clause-front t c = front_trans _ _ _ c.loop-index.invariant.front c.in_err-index.ensures.front

pub put_array-returns-in_err-value-clause-front : goal.put_array-returns-in_err-value-clause-front
put_array-returns-in_err-value-clause-front t c =
    front_trans _ _ _ c.loop-index.invariant.front (front_trans _ _ _ c.in_ok-index.ensures.front c.in_err-value.ensures.front)

pub put_array-returns-in_err-push-clause-front : goal.put_array-returns-in_err-push-clause-front
put_array-returns-in_err-push-clause-front t c =
    front_trans _ _ _ c.loop-index.invariant.front (front_trans _ _ _ c.in_ok-index.ensures.front c.in_ok-value.ensures.front)

pub put_array-returns-clause-spelled : goal.put_array-returns-clause-spelled
put_array-returns-clause-spelled t c =
    array_spelled c.loop-index.bank (out-ArrTree c.args.array.now).base c.loop-index.writes.items c.new.result c.deref-index-items.result.now
    c.loop-index.index-index (array_in c.args.array.now) c.loop-index.invariant.spelled c.loop-index-test.false c.new.ensures c.loop-index.invariant.whole

pub put_atom-returns-clause-front : goal.put_atom-returns-clause-front
put_atom-returns-clause-front t c = front_trans _ _ _ c.in_ok-node.ensures.front c.put_node.ensures.front

pub put_atom-returns-in_err-node-clause-front : goal.put_atom-returns-in_err-node-clause-front
put_atom-returns-in_err-node-clause-front t c = c.in_err-node.ensures.front

pub put_inner-returns-in-Sym-clause-front : goal.put_inner-returns-in-Sym-clause-front
put_inner-returns-in-Sym-clause-front t c = front_same _ _ refl

pub put_inner-returns-in_err-array-in-Read-clause-front : goal.put_inner-returns-in_err-array-in-Read-clause-front
put_inner-returns-in_err-array-in-Read-clause-front t c = c.in_err-array-in-Read.ensures.front

pub put_inner-returns-in_err-index-in-Read-clause-front : goal.put_inner-returns-in_err-index-in-Read-clause-front
put_inner-returns-in_err-index-in-Read-clause-front t c = front_trans _ _ _ c.in_ok-array-in-Read.ensures.front c.in_err-index-in-Read.ensures.front

pub put_inner-returns-in_ok-index-in-Read-clause-front : goal.put_inner-returns-in_ok-index-in-Read-clause-front
put_inner-returns-in_ok-index-in-Read-clause-front t c = front_trans _ _ _ c.in_ok-array-in-Read.ensures.front c.in_ok-index-in-Read.ensures.front

pub put_inner-returns-in_ok-index-in-Read-clause-kept : goal.put_inner-returns-in_ok-index-in-Read-clause-kept
put_inner-returns-in_ok-index-in-Read-clause-kept t c =
    let e : atom_in c.args.atom.now ≡ Read (array_in c.in-Read.array.value) (polynomial_in c.in-Read.index.value) =
    ap atom_in (c.in-Read.is ∙ sym (rolls-Read c.in-Read.array c.in-Read.index))
    ∙ fold-roll-Atom Atom ArrayTerm Monomial Polynomial atom_step arr_step mono_step poly_step (open_tree.Read c.in-Read.array c.in-Read.index) in
    subst (λ x. c.put_sum.new.bank ≡ with_terms (polynomial_in x) c.put_array.new.bank) c.deref-in-Read.ensures c.in_ok-index-in-Read.ensures.kept
    ∙ ap (with_terms (polynomial_in c.in-Read.index.value))
    (subst (λ x. c.put_array.new.bank ≡ with_array (array_in x) c.args.bank.now) c.deref.ensures c.in_ok-array-in-Read.ensures.kept)
    ∙ ap (λ x. with_inner x c.args.bank.now) (sym e)

pub put_inner-returns-in_err-left-in-Div-clause-front : goal.put_inner-returns-in_err-left-in-Div-clause-front
put_inner-returns-in_err-left-in-Div-clause-front t c = c.in_err-left-in-Div.ensures.front

pub put_inner-returns-in_err-right-in-Div-clause-front : goal.put_inner-returns-in_err-right-in-Div-clause-front
put_inner-returns-in_err-right-in-Div-clause-front t c = front_trans _ _ _ c.in_ok-left-in-Div.ensures.front c.in_err-right-in-Div.ensures.front

pub put_inner-returns-in_ok-right-in-Div-clause-front : goal.put_inner-returns-in_ok-right-in-Div-clause-front
put_inner-returns-in_ok-right-in-Div-clause-front t c = front_trans _ _ _ c.in_ok-left-in-Div.ensures.front c.in_ok-right-in-Div.ensures.front

pub put_inner-returns-in_ok-right-in-Div-clause-kept : goal.put_inner-returns-in_ok-right-in-Div-clause-kept
put_inner-returns-in_ok-right-in-Div-clause-kept t c =
    let e : atom_in c.args.atom.now ≡ Quotient (polynomial_in c.in-Div.left.value) (polynomial_in c.in-Div.right.value) =
    ap atom_in (c.in-Div.is ∙ sym (rolls-Div c.in-Div.left c.in-Div.right))
    ∙ fold-roll-Atom Atom ArrayTerm Monomial Polynomial atom_step arr_step mono_step poly_step (open_tree.Div c.in-Div.left c.in-Div.right) in
    subst (λ x. c.put_sum-in-Div-2.new.bank ≡ with_terms (polynomial_in x) c.put_sum-in-Div.new.bank) c.deref-in-Div-2.ensures c.in_ok-right-in-Div.ensures.kept
    ∙ ap (with_terms (polynomial_in c.in-Div.right.value))
    (subst (λ x. c.put_sum-in-Div.new.bank ≡ with_terms (polynomial_in x) c.args.bank.now) c.deref-in-Div.ensures c.in_ok-left-in-Div.ensures.kept)
    ∙ ap (λ x. with_inner x c.args.bank.now) (sym e)

pub put_inner-returns-in_err-left-in-Rem-clause-front : goal.put_inner-returns-in_err-left-in-Rem-clause-front
put_inner-returns-in_err-left-in-Rem-clause-front t c = c.in_err-left-in-Rem.ensures.front

pub put_inner-returns-in_err-right-in-Rem-clause-front : goal.put_inner-returns-in_err-right-in-Rem-clause-front
put_inner-returns-in_err-right-in-Rem-clause-front t c = front_trans _ _ _ c.in_ok-left-in-Rem.ensures.front c.in_err-right-in-Rem.ensures.front

pub put_inner-returns-in_ok-right-in-Rem-clause-front : goal.put_inner-returns-in_ok-right-in-Rem-clause-front
put_inner-returns-in_ok-right-in-Rem-clause-front t c = front_trans _ _ _ c.in_ok-left-in-Rem.ensures.front c.in_ok-right-in-Rem.ensures.front

pub put_inner-returns-in_ok-right-in-Rem-clause-kept : goal.put_inner-returns-in_ok-right-in-Rem-clause-kept
put_inner-returns-in_ok-right-in-Rem-clause-kept t c =
    let e : atom_in c.args.atom.now ≡ Remainder (polynomial_in c.in-Rem.left.value) (polynomial_in c.in-Rem.right.value) =
    ap atom_in (c.in-Rem.is ∙ sym (rolls-Rem c.in-Rem.left c.in-Rem.right))
    ∙ fold-roll-Atom Atom ArrayTerm Monomial Polynomial atom_step arr_step mono_step poly_step (open_tree.Rem c.in-Rem.left c.in-Rem.right) in
    subst (λ x. c.put_sum-in-Rem-2.new.bank ≡ with_terms (polynomial_in x) c.put_sum-in-Rem.new.bank) c.deref-in-Rem-2.ensures c.in_ok-right-in-Rem.ensures.kept
    ∙ ap (with_terms (polynomial_in c.in-Rem.right.value))
    (subst (λ x. c.put_sum-in-Rem.new.bank ≡ with_terms (polynomial_in x) c.args.bank.now) c.deref-in-Rem.ensures c.in_ok-left-in-Rem.ensures.kept)
    ∙ ap (λ x. with_inner x c.args.bank.now) (sym e)

pub put_inner-returns-in_ok-index-in-Read-clause-spelled : goal.put_inner-returns-in_ok-index-in-Read-clause-spelled
put_inner-returns-in_ok-index-in-Read-clause-spelled t c =
    let a = c.in_ok-array-in-Read.array in
    let i = c.in_ok-index-in-Read.index in
    let s = subst (λ x. SpellsArray c.put_array.new.bank a (array_in x)) c.deref.ensures c.in_ok-array-in-Read.ensures.spelled in
    let u = subst (λ x. SpellsSum c.put_sum.new.bank i (polynomial_in x)) c.deref-in-Read.ensures c.in_ok-index-in-Read.ensures.spelled in
    let e : atom_in c.args.atom.now ≡ Read (array_in c.in-Read.array.value) (polynomial_in c.in-Read.index.value) =
    ap atom_in (c.in-Read.is ∙ sym (rolls-Read c.in-Read.array c.in-Read.index))
    ∙ fold-roll-Atom Atom ArrayTerm Monomial Polynomial atom_step arr_step mono_step poly_step (open_tree.Read c.in-Read.array c.in-Read.index) in
    subst (SpellsAtom c.put_sum.new.bank (node.Read a i)) (sym e)
    (read_spelled c.put_array.new.bank c.put_sum.new.bank a i (array_in c.in-Read.array.value)
    (polynomial_in c.in-Read.index.value) c.in_ok-index-in-Read.ensures.front s u)

pub put_inner-returns-in_ok-right-in-Div-clause-spelled : goal.put_inner-returns-in_ok-right-in-Div-clause-spelled
put_inner-returns-in_ok-right-in-Div-clause-spelled t c =
    let l = c.in_ok-left-in-Div.left in
    let r = c.in_ok-right-in-Div.right in
    let s = subst (λ x. SpellsSum c.put_sum-in-Div.new.bank l (polynomial_in x)) c.deref-in-Div.ensures c.in_ok-left-in-Div.ensures.spelled in
    let u = subst (λ x. SpellsSum c.put_sum-in-Div-2.new.bank r (polynomial_in x)) c.deref-in-Div-2.ensures c.in_ok-right-in-Div.ensures.spelled in
    let e : atom_in c.args.atom.now ≡ Quotient (polynomial_in c.in-Div.left.value) (polynomial_in c.in-Div.right.value) =
    ap atom_in (c.in-Div.is ∙ sym (rolls-Div c.in-Div.left c.in-Div.right))
    ∙ fold-roll-Atom Atom ArrayTerm Monomial Polynomial atom_step arr_step mono_step poly_step (open_tree.Div c.in-Div.left c.in-Div.right) in
    subst (SpellsAtom c.put_sum-in-Div-2.new.bank (node.Div l r)) (sym e)
    (quotient_spelled c.put_sum-in-Div.new.bank c.put_sum-in-Div-2.new.bank l r (polynomial_in c.in-Div.left.value)
    (polynomial_in c.in-Div.right.value) c.in_ok-right-in-Div.ensures.front s u)

pub put_inner-returns-in_ok-right-in-Rem-clause-spelled : goal.put_inner-returns-in_ok-right-in-Rem-clause-spelled
put_inner-returns-in_ok-right-in-Rem-clause-spelled t c =
    let l = c.in_ok-left-in-Rem.left in
    let r = c.in_ok-right-in-Rem.right in
    let s = subst (λ x. SpellsSum c.put_sum-in-Rem.new.bank l (polynomial_in x)) c.deref-in-Rem.ensures c.in_ok-left-in-Rem.ensures.spelled in
    let u = subst (λ x. SpellsSum c.put_sum-in-Rem-2.new.bank r (polynomial_in x)) c.deref-in-Rem-2.ensures c.in_ok-right-in-Rem.ensures.spelled in
    let e : atom_in c.args.atom.now ≡ Remainder (polynomial_in c.in-Rem.left.value) (polynomial_in c.in-Rem.right.value) =
    ap atom_in (c.in-Rem.is ∙ sym (rolls-Rem c.in-Rem.left c.in-Rem.right))
    ∙ fold-roll-Atom Atom ArrayTerm Monomial Polynomial atom_step arr_step mono_step poly_step (open_tree.Rem c.in-Rem.left c.in-Rem.right) in
    subst (SpellsAtom c.put_sum-in-Rem-2.new.bank (node.Rem l r)) (sym e)
    (remainder_spelled c.put_sum-in-Rem.new.bank c.put_sum-in-Rem-2.new.bank l r (polynomial_in c.in-Rem.left.value)
    (polynomial_in c.in-Rem.right.value) c.in_ok-right-in-Rem.ensures.front s u)
