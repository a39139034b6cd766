use Rattle.std.proofs.Common.{rules, ◌≡◌, FitsSigned, ◌+◌, pos, not, ◌&&◌, map, drop, refl, ap, sym, ◌∙◌}
use Rattle.std.specs.Int.{w128}
use Rattle.std.specs.Ordering.{int_eq}
use Rattle.std.proofs.lemmas.Bool.{and_from}
use Rattle.nf_trees.specs.NormalTerms.{monomial_of, polynomial_of, writes_of}
use Rattle.nf_terms.specs.Normal.{is_constant, stays_read, ordered_atom}
use Rattle.nf_terms.specs.Normal.{atom_rises, monomial_rises, write_rises, is_written, ordered_monomial, ordered, ordered_writes, ordered_array}
use Rattle.nf_trees.specs.View.{atom_in, monomial_in, polynomial_in, array_in, term_in, write_in}
use Rattle.nf_trees.proofs.Compared.{polynomial_in-is}
use Rattle.nf_trees.proofs.Degrees.{monomial_in-is}
use Rattle.nf_trees.proofs.Compared.{array_in-is}
use Rattle.nf_terms.proofs.InOrder.{atom_test, term_test, write_test, part_to_end, fails, holds, second_fails, is_not_zero, is_zero}
use Rattle.nf_terms.proofs.InOrder.{one_more_test, no_more_test}
use Rattle.nf_trees.proofs.TreeParts.{atom_of_read, of_division}
use Rattle.nf_terms.proofs.ordered.+ordered.Goals.{is_ordered_atom-then-is_ordered_arr, is_ordered_atom-else-is_ordered_arr}
use Rattle.nf_terms.proofs.ordered.+ordered.Goals.{is_ordered_atom-then-is_ordered_poly-2, is_ordered_atom-else-is_ordered_poly-2}
use Rattle.nf_terms.proofs.ordered.+ordered.Goals.{is_ordered_atom-then-is_constant, is_ordered_atom-else-is_constant}
use Rattle.nf_terms.proofs.ordered.+ordered.Goals as goal

pub is_ordered_mono-returns-then-not-is_ordered_atom : goal.is_ordered_mono-returns-then-not-is_ordered_atom
is_ordered_mono-returns-then-not-is_ordered_atom t c =
    let xs = c.deref-atom-items.result.now in
    let i = c.loop-i.i in
    sym (fails atom_test (λ as'. ordered_monomial (monomial_of (map atom_in as'))) (λ a as'. refl) xs i c.atom-item.result c.loop-i-test.true c.atom-item.is
    (ap (λ b. b && atom_rises (atom_in c.atom-item.result) (monomial_of (map atom_in (drop (i + 1) xs))))
    (sym c.is_ordered_atom.ensures ∙ c.if-not-is_ordered_atom.true)))
    ∙ c.loop-i.invariant

pub is_ordered_mono-returns-then-not-atom_rises : goal.is_ordered_mono-returns-then-not-atom_rises
is_ordered_mono-returns-then-not-atom_rises t c =
    let xs = c.deref-atom-items.result.now in
    let i = c.loop-i.i in
    let rest = part_to_end c.deref.result.now (i + 1) ∙ ap (drop (i + 1)) (c.deref.ensures.value ∙ sym c.deref-atom-items.ensures.value) in
    sym (fails atom_test (λ as'. ordered_monomial (monomial_of (map atom_in as'))) (λ a as'. refl) xs i c.atom-item.result c.loop-i-test.true c.atom-item.is
    (second_fails _ _ (sym (c.atom_rises.ensures ∙ ap (λ as'. atom_rises (atom_in c.atom-item.result) (monomial_of (map atom_in as'))) rest)
    ∙ c.if-not-atom_rises.true)))
    ∙ c.loop-i.invariant

pub is_ordered_mono-loop-i-preserved : goal.is_ordered_mono-loop-i-preserved
is_ordered_mono-loop-i-preserved t c =
    let xs = c.deref-atom-items.result.now in
    let i = c.loop-i.i in
    let rest = part_to_end c.deref.result.now (i + 1) ∙ ap (drop (i + 1)) (c.deref.ensures.value ∙ sym c.deref-atom-items.ensures.value) in
    holds atom_test (λ as'. ordered_monomial (monomial_of (map atom_in as'))) (λ a as'. refl) xs i c.atom-item.result c.loop-i-test.true c.atom-item.is
    (and_from _ _ (sym c.is_ordered_atom.ensures ∙ c.if-not-is_ordered_atom.false)
    (sym (c.atom_rises.ensures ∙ ap (λ as'. atom_rises (atom_in c.atom-item.result) (monomial_of (map atom_in as'))) rest) ∙ c.if-not-atom_rises.false))
    ∙ c.loop-i.invariant

pub is_ordered_poly-returns-then-not-is_ordered_mono : goal.is_ordered_poly-returns-then-not-is_ordered_mono
is_ordered_poly-returns-then-not-is_ordered_mono t c =
    let xs = c.deref-term-items.result.now in
    let i = c.loop-i.i in
    let x = c.term-item.result in
    sym (fails term_test (λ ts. ordered (polynomial_of (map term_in ts))) (λ t ts. refl) xs i x c.loop-i-test.true c.term-item.is
    (ap (λ b. b && monomial_rises (monomial_in x.0) (polynomial_of (map term_in (drop (i + 1) xs))))
    (second_fails (not (int_eq x.1 (pos 0))) _ (sym c.is_ordered_mono.ensures ∙ c.if-not-is_ordered_mono.true))))
    ∙ c.loop-i.invariant

pub is_ordered_poly-returns-then-not-monomial_rises : goal.is_ordered_poly-returns-then-not-monomial_rises
is_ordered_poly-returns-then-not-monomial_rises t c =
    let xs = c.deref-term-items.result.now in
    let i = c.loop-i.i in
    let x = c.term-item.result in
    let rest = part_to_end c.deref.result.now (i + 1) ∙ ap (drop (i + 1)) (c.deref.ensures.value ∙ sym c.deref-term-items.ensures.value) in
    let rises = c.monomial_rises.ensures ∙ ap (λ ts. monomial_rises (monomial_in x.0) (polynomial_of (map term_in ts))) rest in
    sym (fails term_test (λ ts. ordered (polynomial_of (map term_in ts))) (λ t ts. refl) xs i x c.loop-i-test.true c.term-item.is
    (second_fails (not (int_eq x.1 (pos 0)) && ordered_monomial (monomial_in x.0)) _ (sym rises ∙ c.if-not-monomial_rises.true)))
    ∙ c.loop-i.invariant

pub is_ordered_poly-loop-i-preserved : goal.is_ordered_poly-loop-i-preserved
is_ordered_poly-loop-i-preserved t c =
    let xs = c.deref-term-items.result.now in
    let i = c.loop-i.i in
    let x = c.term-item.result in
    let rest = part_to_end c.deref.result.now (i + 1) ∙ ap (drop (i + 1)) (c.deref.ensures.value ∙ sym c.deref-term-items.ensures.value) in
    let rises = c.monomial_rises.ensures ∙ ap (λ ts. monomial_rises (monomial_in x.0) (polynomial_of (map term_in ts))) rest in
    holds term_test (λ ts. ordered (polynomial_of (map term_in ts))) (λ t ts. refl) xs i x c.loop-i-test.true c.term-item.is
    (and_from _ _ (and_from _ _ (is_not_zero x.1 c.if-term-eq0.false) (sym c.is_ordered_mono.ensures ∙ c.if-not-is_ordered_mono.false))
    (sym rises ∙ c.if-not-monomial_rises.false))
    ∙ c.loop-i.invariant

pub is_ordered_arr-returns-then-not-is_ordered_poly : goal.is_ordered_arr-returns-then-not-is_ordered_poly
is_ordered_arr-returns-then-not-is_ordered_poly t c =
    let xs = c.deref-write-items.result.now in
    let i = c.loop-i.i in
    let x = c.write-item.result in
    let later = writes_of (map write_in (drop (i + 1) xs)) in
    sym (fails write_test (λ ws. ordered_writes (writes_of (map write_in ws))) (λ w ws. refl) xs i x c.loop-i-test.true c.write-item.is
    (ap (λ b. b && ordered (polynomial_in x.1) && not (is_written (polynomial_in x.0) later) && write_rises (polynomial_in x.0) later)
    (sym c.is_ordered_poly.ensures ∙ c.if-not-is_ordered_poly.true)))
    ∙ c.loop-i.invariant

pub is_ordered_arr-returns-then-not-is_ordered_poly-2 : goal.is_ordered_arr-returns-then-not-is_ordered_poly-2
is_ordered_arr-returns-then-not-is_ordered_poly-2 t c =
    let xs = c.deref-write-items.result.now in
    let i = c.loop-i.i in
    let x = c.write-item.result in
    let later = writes_of (map write_in (drop (i + 1) xs)) in
    sym (fails write_test (λ ws. ordered_writes (writes_of (map write_in ws))) (λ w ws. refl) xs i x c.loop-i-test.true c.write-item.is
    (ap (λ b. b && not (is_written (polynomial_in x.0) later) && write_rises (polynomial_in x.0) later)
    (second_fails (ordered (polynomial_in x.0)) _ (sym c.is_ordered_poly-in-loop-i.ensures ∙ c.if-not-is_ordered_poly-2.true))))
    ∙ c.loop-i.invariant

pub is_ordered_arr-returns-then-is_written : goal.is_ordered_arr-returns-then-is_written
is_ordered_arr-returns-then-is_written t c =
    let xs = c.deref-write-items.result.now in
    let i = c.loop-i.i in
    let x = c.write-item.result in
    let later = writes_of (map write_in (drop (i + 1) xs)) in
    let rest = part_to_end c.deref.result.now (i + 1) ∙ ap (drop (i + 1)) (c.deref.ensures.value ∙ sym c.deref-write-items.ensures.value) in
    let again = c.is_written.ensures ∙ ap (λ ws. is_written (polynomial_in x.0) (writes_of (map write_in ws))) rest in
    sym (fails write_test (λ ws. ordered_writes (writes_of (map write_in ws))) (λ w ws. refl) xs i x c.loop-i-test.true c.write-item.is
    (ap (λ b. b && write_rises (polynomial_in x.0) later)
    (second_fails (ordered (polynomial_in x.0) && ordered (polynomial_in x.1)) _ (ap not (sym again ∙ c.if-is_written.true)))))
    ∙ c.loop-i.invariant

pub is_ordered_arr-returns-then-not-write_rises : goal.is_ordered_arr-returns-then-not-write_rises
is_ordered_arr-returns-then-not-write_rises t c =
    let xs = c.deref-write-items.result.now in
    let i = c.loop-i.i in
    let x = c.write-item.result in
    let later = writes_of (map write_in (drop (i + 1) xs)) in
    let rest = part_to_end c.deref.result.now (i + 1) ∙ ap (drop (i + 1)) (c.deref.ensures.value ∙ sym c.deref-write-items.ensures.value) in
    let rises = c.write_rises.ensures ∙ ap (λ ws. write_rises (polynomial_in x.0) (writes_of (map write_in ws))) rest in
    sym (fails write_test (λ ws. ordered_writes (writes_of (map write_in ws))) (λ w ws. refl) xs i x c.loop-i-test.true c.write-item.is
    (second_fails (ordered (polynomial_in x.0) && ordered (polynomial_in x.1) && not (is_written (polynomial_in x.0) later)) _
    (sym rises ∙ c.if-not-write_rises.true)))
    ∙ c.loop-i.invariant

pub is_ordered_arr-loop-i-preserved : goal.is_ordered_arr-loop-i-preserved
is_ordered_arr-loop-i-preserved t c =
    let xs = c.deref-write-items.result.now in
    let i = c.loop-i.i in
    let x = c.write-item.result in
    let rest = part_to_end c.deref.result.now (i + 1) ∙ ap (drop (i + 1)) (c.deref.ensures.value ∙ sym c.deref-write-items.ensures.value) in
    let again = c.is_written.ensures ∙ ap (λ ws. is_written (polynomial_in x.0) (writes_of (map write_in ws))) rest in
    let rises = c.write_rises.ensures ∙ ap (λ ws. write_rises (polynomial_in x.0) (writes_of (map write_in ws))) rest in
    holds write_test (λ ws. ordered_writes (writes_of (map write_in ws))) (λ w ws. refl) xs i x c.loop-i-test.true c.write-item.is
    (and_from _ _ (and_from _ _ (and_from _ _ (sym c.is_ordered_poly.ensures ∙ c.if-not-is_ordered_poly.false)
    (sym c.is_ordered_poly-in-loop-i.ensures ∙ c.if-not-is_ordered_poly-2.false)) (ap not (sym again ∙ c.if-is_written.false)))
    (sym rises ∙ c.if-not-write_rises.false))
    ∙ c.loop-i.invariant

pub is_ordered_mono-loop-i-init : goal.is_ordered_mono-loop-i-init
is_ordered_mono-loop-i-init t c =
    ap (λ xs. ordered_monomial (monomial_of (map atom_in xs))) c.deref-atom-items.ensures.value ∙ sym (ap ordered_monomial (monomial_in-is c.args.mono.now))

pub is_ordered_poly-loop-i-init : goal.is_ordered_poly-loop-i-init
is_ordered_poly-loop-i-init t c =
    ap (λ xs. ordered (polynomial_of (map term_in xs))) c.deref-term-items.ensures.value ∙ sym (ap ordered (polynomial_in-is c.args.poly.now))

pub is_ordered_arr-loop-i-init : goal.is_ordered_arr-loop-i-init
is_ordered_arr-loop-i-init t c =
    ap (λ xs. ordered_writes (writes_of (map write_in xs))) c.deref-write-items.ensures.value ∙ sym (ap ordered_array (array_in-is c.args.arr.now))

pub is_ordered_atom-returns-then-is_ordered_poly : goal.is_ordered_atom-returns-then-is_ordered_poly
is_ordered_atom-returns-then-is_ordered_poly t c =
    let before = ordered_array (array_in c.in-Read.array.value) in
    let last = ordered (polynomial_in c.in-Read.index.value) in
    let array = c.is_ordered_arr.ensures ∙ ap (λ a. ordered_array (array_in a)) c.deref.ensures in
    let tests : c.if-is_ordered_arr.value ≡ (before && last) = elim c.if-is_ordered_arr.branch [
      | is_ordered_atom-then-is_ordered_arr w ↦ one_more_test before last array w.if-is_ordered_arr.true
          (w.value-is ∙ w.is_ordered_poly.ensures ∙ ap (λ i. ordered (polynomial_in i)) w.deref-then-is_ordered_arr.ensures)
      | is_ordered_atom-else-is_ordered_arr w ↦ no_more_test before last array w.if-is_ordered_arr.false w.value-is
    ] in
    c.stays_read.ensures
    ∙ (λ k. stays_read (array_in (c.deref-then-is_ordered_poly.ensures k)) (polynomial_in (c.deref-then-is_ordered_poly-2.ensures k)))
    ∙ sym (ap ordered_atom (atom_of_read c.args.atom.now c.in-Read.array c.in-Read.index c.in-Read.is)
    ∙ ap (λ b. b && stays_read (array_in c.in-Read.array.value) (polynomial_in c.in-Read.index.value)) (sym tests ∙ c.if-is_ordered_poly.true))

pub is_ordered_atom-returns-else-is_ordered_poly : goal.is_ordered_atom-returns-else-is_ordered_poly
is_ordered_atom-returns-else-is_ordered_poly t c =
    let before = ordered_array (array_in c.in-Read.array.value) in
    let last = ordered (polynomial_in c.in-Read.index.value) in
    let array = c.is_ordered_arr.ensures ∙ ap (λ a. ordered_array (array_in a)) c.deref.ensures in
    let tests : c.if-is_ordered_arr.value ≡ (before && last) = elim c.if-is_ordered_arr.branch [
      | is_ordered_atom-then-is_ordered_arr w ↦ one_more_test before last array w.if-is_ordered_arr.true
          (w.value-is ∙ w.is_ordered_poly.ensures ∙ ap (λ i. ordered (polynomial_in i)) w.deref-then-is_ordered_arr.ensures)
      | is_ordered_atom-else-is_ordered_arr w ↦ no_more_test before last array w.if-is_ordered_arr.false w.value-is
    ] in
    c.if-is_ordered_poly.false
    ∙ sym (ap ordered_atom (atom_of_read c.args.atom.now c.in-Read.array c.in-Read.index c.in-Read.is)
    ∙ ap (λ b. b && stays_read (array_in c.in-Read.array.value) (polynomial_in c.in-Read.index.value)) (sym tests ∙ c.if-is_ordered_poly.false))

pub is_ordered_atom-returns-after-is_constant : goal.is_ordered_atom-returns-after-is_constant
is_ordered_atom-returns-after-is_constant t c =
    let left = polynomial_in c.in-Div.left.value in
    let right = polynomial_in c.in-Div.right.value in
    let first = c.is_ordered_poly-in-Div.ensures ∙ ap (λ p. ordered (polynomial_in p)) c.deref-in-Div.ensures in
    let tests : c.if-is_ordered_poly-2.value ≡ (ordered left && ordered right) = elim c.if-is_ordered_poly-2.branch [
      | is_ordered_atom-then-is_ordered_poly-2 w ↦ one_more_test (ordered left) (ordered right) first w.if-is_ordered_poly-2.true
          (w.value-is ∙ w.is_ordered_poly-then-is_ordered_poly-2.ensures ∙ ap (λ p. ordered (polynomial_in p)) w.deref-then-is_ordered_poly-2-2.ensures)
      | is_ordered_atom-else-is_ordered_poly-2 w ↦ no_more_test (ordered left) (ordered right) first w.if-is_ordered_poly-2.false w.value-is
    ] in
    let one = c.is_constant.ensures ∙ ap (λ p. is_constant (polynomial_in p)) c.deref-then-is_ordered_poly-3.ensures in
    let constants : c.if-is_constant.result ≡ (is_constant left && is_constant right) = elim c.if-is_constant.branch [
      | is_ordered_atom-then-is_constant w ↦ one_more_test (is_constant left) (is_constant right) one w.if-is_constant.true
          (w.result-is ∙ w.is_constant-then-is_constant.ensures ∙ ap (λ p. is_constant (polynomial_in p)) w.deref-then-is_constant.ensures)
      | is_ordered_atom-else-is_constant w ↦ no_more_test (is_constant left) (is_constant right) one w.if-is_constant.false w.result-is
    ] in
    ap not constants
    ∙ sym (of_division ordered_atom c.args.atom.now c.in-Div.left c.in-Div.right refl c.in-Div.is
    ∙ ap (λ b. b && not (is_constant left && is_constant right)) (sym tests ∙ c.if-is_ordered_poly-3.true))

pub is_ordered_atom-returns-else-is_ordered_poly-3 : goal.is_ordered_atom-returns-else-is_ordered_poly-3
is_ordered_atom-returns-else-is_ordered_poly-3 t c =
    let left = polynomial_in c.in-Div.left.value in
    let right = polynomial_in c.in-Div.right.value in
    let first = c.is_ordered_poly-in-Div.ensures ∙ ap (λ p. ordered (polynomial_in p)) c.deref-in-Div.ensures in
    let tests : c.if-is_ordered_poly-2.value ≡ (ordered left && ordered right) = elim c.if-is_ordered_poly-2.branch [
      | is_ordered_atom-then-is_ordered_poly-2 w ↦ one_more_test (ordered left) (ordered right) first w.if-is_ordered_poly-2.true
          (w.value-is ∙ w.is_ordered_poly-then-is_ordered_poly-2.ensures ∙ ap (λ p. ordered (polynomial_in p)) w.deref-then-is_ordered_poly-2-2.ensures)
      | is_ordered_atom-else-is_ordered_poly-2 w ↦ no_more_test (ordered left) (ordered right) first w.if-is_ordered_poly-2.false w.value-is
    ] in
    c.if-is_ordered_poly-3.false
    ∙ sym (of_division ordered_atom c.args.atom.now c.in-Div.left c.in-Div.right refl c.in-Div.is
    ∙ ap (λ b. b && not (is_constant left && is_constant right)) (sym tests ∙ c.if-is_ordered_poly-3.false))

pub is_ordered_poly-returns-then-term-eq0 : goal.is_ordered_poly-returns-then-term-eq0
is_ordered_poly-returns-then-term-eq0 t c =
    let xs = c.deref-term-items.result.now in
    let i = c.loop-i.i in
    let x = c.term-item.result in
    let fits : FitsSigned w128 x.1 = search rules in
    sym (fails term_test (λ ts. ordered (polynomial_of (map term_in ts))) (λ t ts. refl) xs i x c.loop-i-test.true c.term-item.is
    (ap (λ b. not b && ordered_monomial (monomial_in x.0) && monomial_rises (monomial_in x.0) (polynomial_of (map term_in (drop (i + 1) xs))))
    (is_zero x.1 fits c.if-term-eq0.true)))
    ∙ c.loop-i.invariant
