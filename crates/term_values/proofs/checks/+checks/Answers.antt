use Rattle.std.proofs.Common.{◌&&◌, map, ap, sym, ◌∙◌, refl}
use Rattle.std.proofs.lemmas.Bool.{and_from}
use Rattle.term_text.specs.declared.tree.WrittenArray.{out-WrittenArray}
use Rattle.term_text.specs.View.{written_atom_in, written_monomial_in, written_polynomial_in, written_term_in, written_write_in, written_array_in}
use Rattle.term_values.specs.Checks.{atom_passes, monomial_passes, polynomial_passes, array_passes}
use Rattle.term_values.specs.ListParts.{stands, atoms_pass, monomials_pass, writes_pass}
use Rattle.term_values.proofs.Lists.{passes, stops, all_pass, second_stops, atom_stands, monomial_stops, monomial_goes_on, polynomial_tree, array_tree}
use Rattle.term_values.proofs.WrittenParts.{written_symbol, written_read, head_atom}
use Rattle.term_values.proofs.checks.+checks.Goals as goal

pub monomial_passes-loop-atom-preserved : goal.monomial_passes-loop-atom-preserved
monomial_passes-loop-atom-preserved g t c =
    let r = g.C.Check.test c.args.check.now in
    passes written_atom_in (atom_passes r) (atoms_pass r) (λ _ _. refl)
    c.deref-atom-items.result.now c.loop-atom.atom-index c.atom-item.result c.loop-atom-test.true c.atom-item.is
    (monomial_passes r (written_monomial_in c.args.monomial.now)) c.loop-atom.invariant (sym c.atom_passes.ensures ∙ c.if-not-atom_passes.false)

pub monomial_passes-returns-then-not-atom_passes : goal.monomial_passes-returns-then-not-atom_passes
monomial_passes-returns-then-not-atom_passes g t c =
    let r = g.C.Check.test c.args.check.now in
    stops written_atom_in (atom_passes r) (atoms_pass r) (λ _ _. refl)
    c.deref-atom-items.result.now c.loop-atom.atom-index c.atom-item.result c.loop-atom-test.true c.atom-item.is
    (monomial_passes r (written_monomial_in c.args.monomial.now)) c.loop-atom.invariant (sym c.atom_passes.ensures ∙ c.if-not-atom_passes.true)

pub monomial_passes-returns : goal.monomial_passes-returns
monomial_passes-returns g t c =
    let r = g.C.Check.test c.args.check.now in
    all_pass written_atom_in (atoms_pass r) c.deref-atom-items.result.now c.loop-atom.atom-index
    (monomial_passes r (written_monomial_in c.args.monomial.now)) c.loop-atom.invariant c.loop-atom-test.false refl

pub polynomial_passes-loop-minus-preserved : goal.polynomial_passes-loop-minus-preserved
polynomial_passes-loop-minus-preserved g t c =
    let r = g.C.Check.test c.args.check.now in
    passes written_term_in (λ m. monomial_passes r m.1) (monomials_pass r) (λ _ _. refl)
    c.deref-minus-items.result.now c.loop-minus._minus-index c.loop-minus-item.result c.loop-minus-test.true c.loop-minus-item.is
    (polynomial_passes r (written_polynomial_in c.args.polynomial.now)) c.loop-minus.invariant (sym c.monomial_passes.ensures ∙ c.if-not-monomial_passes.false)

pub polynomial_passes-returns-then-not-monomial_passes : goal.polynomial_passes-returns-then-not-monomial_passes
polynomial_passes-returns-then-not-monomial_passes g t c =
    let r = g.C.Check.test c.args.check.now in
    stops written_term_in (λ m. monomial_passes r m.1) (monomials_pass r) (λ _ _. refl)
    c.deref-minus-items.result.now c.loop-minus._minus-index c.loop-minus-item.result c.loop-minus-test.true c.loop-minus-item.is
    (polynomial_passes r (written_polynomial_in c.args.polynomial.now)) c.loop-minus.invariant (sym c.monomial_passes.ensures ∙ c.if-not-monomial_passes.true)

pub polynomial_passes-returns : goal.polynomial_passes-returns
polynomial_passes-returns g t c =
    let r = g.C.Check.test c.args.check.now in
    all_pass written_term_in (monomials_pass r) c.deref-minus-items.result.now c.loop-minus._minus-index
    (polynomial_passes r (written_polynomial_in c.args.polynomial.now)) c.loop-minus.invariant c.loop-minus-test.false refl

pub array_passes-loop-index-preserved : goal.array_passes-loop-index-preserved
array_passes-loop-index-preserved g t c =
    let r = g.C.Check.test c.args.check.now in
    let x = c.loop-index-item.result in
    passes written_write_in (λ w. polynomial_passes r w.0 && polynomial_passes r w.1) (writes_pass r) (λ _ _. refl) c.deref-index-items.result.now
    c.loop-index.index-index x c.loop-index-test.true c.loop-index-item.is
    (array_passes r (written_array_in c.args.array.now)) c.loop-index.invariant
    (and_from _ _ (sym c.polynomial_passes.ensures ∙ c.if-not-polynomial_passes.false)
    (sym c.polynomial_passes-in-loop-index.ensures ∙ c.if-not-polynomial_passes-2.false))

pub array_passes-returns-then-not-polynomial_passes : goal.array_passes-returns-then-not-polynomial_passes
array_passes-returns-then-not-polynomial_passes g t c =
    let r = g.C.Check.test c.args.check.now in
    let x = c.loop-index-item.result in
    stops written_write_in (λ w. polynomial_passes r w.0 && polynomial_passes r w.1) (writes_pass r) (λ _ _. refl) c.deref-index-items.result.now
    c.loop-index.index-index x c.loop-index-test.true c.loop-index-item.is
    (array_passes r (written_array_in c.args.array.now)) c.loop-index.invariant
    (ap (λ b. b && polynomial_passes r (written_polynomial_in x.1)) (sym c.polynomial_passes.ensures ∙ c.if-not-polynomial_passes.true))

pub array_passes-returns-then-not-polynomial_passes-2 : goal.array_passes-returns-then-not-polynomial_passes-2
array_passes-returns-then-not-polynomial_passes-2 g t c =
    let r = g.C.Check.test c.args.check.now in
    let x = c.loop-index-item.result in
    stops written_write_in (λ w. polynomial_passes r w.0 && polynomial_passes r w.1) (writes_pass r) (λ _ _. refl) c.deref-index-items.result.now
    c.loop-index.index-index x c.loop-index-test.true c.loop-index-item.is
    (array_passes r (written_array_in c.args.array.now)) c.loop-index.invariant
    (second_stops _ _ (sym c.polynomial_passes.ensures ∙ c.if-not-polynomial_passes.false)
    (sym c.polynomial_passes-in-loop-index.ensures ∙ c.if-not-polynomial_passes-2.true))

pub array_passes-returns : goal.array_passes-returns
array_passes-returns g t c =
    let r = g.C.Check.test c.args.check.now in
    all_pass written_write_in (writes_pass r) c.deref-index-items.result.now c.loop-index.index-index
    (array_passes r (written_array_in c.args.array.now)) c.loop-index.invariant
    c.loop-index-test.false refl

pub monomial_passes-returns-then-not-head_passes : goal.monomial_passes-returns-then-not-head_passes
monomial_passes-returns-then-not-head_passes g t c = monomial_stops (g.C.Check.test c.args.check.now) c.args.monomial.now c.head_passes.result
    c.has_more.result c.deref.result.now c.head_passes.ensures c.has_more.ensures c.deref.ensures.value c.if-not-head_passes.true

pub monomial_passes-loop-atom-init : goal.monomial_passes-loop-atom-init
monomial_passes-loop-atom-init g t c =
    let r = g.C.Check.test c.args.check.now in
    monomial_goes_on r c.args.monomial.now c.head_passes.result c.has_more.result c.deref.result.now c.head_passes.ensures c.has_more.ensures
    c.deref.ensures.value c.if-not-head_passes.false
    ∙ ap (λ xs. atoms_pass r (map written_atom_in xs)) (c.deref.ensures.value ∙ sym c.deref-atom-items.ensures.value)

pub polynomial_passes-loop-minus-init : goal.polynomial_passes-loop-minus-init
polynomial_passes-loop-minus-init g t c =
    let r = g.C.Check.test c.args.check.now in
    polynomial_tree r c.args.polynomial.now ∙ ap (λ ms. monomials_pass r (map written_term_in ms)) (sym c.deref-minus-items.ensures.value)

pub array_passes-returns-then-not-base_passes : goal.array_passes-returns-then-not-base_passes
array_passes-returns-then-not-base_passes g t c =
    let r = g.C.Check.test c.args.check.now in
    let a = c.args.array.now in
    sym (array_tree r a ∙ ap (λ b. b && writes_pass r (map written_write_in (out-WrittenArray a).writes.items))
    (sym c.base_passes.ensures ∙ c.if-not-base_passes.true))

pub array_passes-loop-index-init : goal.array_passes-loop-index-init
array_passes-loop-index-init g t c =
    let r = g.C.Check.test c.args.check.now in
    let a = c.args.array.now in
    array_tree r a ∙ ap (λ b. b && writes_pass r (map written_write_in (out-WrittenArray a).writes.items))
    (sym c.base_passes.ensures ∙ c.if-not-base_passes.false)
    ∙ ap (λ ws. writes_pass r (map written_write_in ws)) (sym c.deref-index-items.ensures.value)

-- ---- what an atom and the head of a monomial are

pub head_passes-returns-in-One : goal.head_passes-returns-in-One
head_passes-returns-in-One g t c =
    let r = g.C.Check.test c.args.check.now in
    c.atom_passes.ensures
    ∙ sym (ap (λ h. monomial_passes r h && stands r h c.args.followed) (head_atom c.args.head.now c.in-One.atom c.in-One.is)
    ∙ atom_stands r (written_atom_in c.in-One.atom) c.args.followed)

pub atom_passes-returns-in-Symbol : goal.atom_passes-returns-in-Symbol
atom_passes-returns-in-Symbol g t c = c.name.ensures
    ∙ sym (ap (atom_passes (g.C.Check.test c.args.check.now)) (written_symbol c.args.atom.now c.in-Symbol.side c.in-Symbol.name c.in-Symbol.is))

pub atom_passes-returns-then-array_passes : goal.atom_passes-returns-then-array_passes
atom_passes-returns-then-array_passes g t c =
    let r = g.C.Check.test c.args.check.now in
    let i = c.in-Read.index in
    let array = ap (λ d. array_passes r (written_array_in d)) (sym c.deref.ensures) ∙ sym c.array_passes.ensures ∙ c.if-array_passes.true in
    c.polynomial_passes.ensures ∙ ap (λ d. polynomial_passes r (written_polynomial_in d)) c.deref-then-array_passes.ensures
    ∙ sym (ap (atom_passes r) (written_read c.args.atom.now c.in-Read.array i c.in-Read.is)
    ∙ ap (λ b. b && polynomial_passes r (written_polynomial_in i.value)) array)

pub atom_passes-returns-else-array_passes : goal.atom_passes-returns-else-array_passes
atom_passes-returns-else-array_passes g t c =
    let r = g.C.Check.test c.args.check.now in
    let i = c.in-Read.index in
    let array = ap (λ d. array_passes r (written_array_in d)) (sym c.deref.ensures) ∙ sym c.array_passes.ensures ∙ c.if-array_passes.false in
    c.if-array_passes.false
    ∙ sym (ap (atom_passes r) (written_read c.args.atom.now c.in-Read.array i c.in-Read.is)
    ∙ ap (λ b. b && polynomial_passes r (written_polynomial_in i.value)) array)
