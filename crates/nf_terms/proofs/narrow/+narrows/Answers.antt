use Rattle.std.proofs.Common.{◌≡◌, ◌+◌, Bool, ◌&&◌, List, refl, ap, sym, ◌∙◌, map, drop}
use Rattle.std.proofs.lemmas.List.{at_drop_all}
use Rattle.std.proofs.lemmas.Bool.{and_from}
use Rattle.fs_model.proofs.Lists.{map_drop_next}
use Rattle.nf_trees.specs.NormalTerms.{monomial_of, polynomial_of, writes_of}
use Rattle.nf_terms.specs.Normal.{is_light, narrow_monomial, narrow_inside, narrow_writes, narrow_array, narrow_atom}
use Rattle.nf_trees.specs.View.{atom_in, polynomial_in, array_in, term_in, write_in}
use Rattle.nf_trees.specs.declared.tree.PolyTree.{PolyTree}
use Rattle.nf_trees.proofs.Compared.{polynomial_in-is}
use Rattle.nf_trees.proofs.Degrees.{monomial_in-is}
use Rattle.nf_trees.proofs.Compared.{array_in-is}
use Rattle.nf_terms.proofs.InOrder.{fails, holds, second_fails, one_more_test, no_more_test}
use Rattle.nf_trees.proofs.TreeParts.{atom_of_read, of_division}
use Rattle.nf_terms.proofs.narrow.+narrows.Goals.{is_narrow_atom-then-is_narrow_arr, is_narrow_atom-else-is_narrow_arr}
use Rattle.nf_terms.proofs.narrow.+narrows.Goals.{is_narrow_atom-then-is_light-2, is_narrow_atom-else-is_light-2}
use Rattle.nf_terms.proofs.narrow.+narrows.Goals.{is_narrow_atom-then-is_narrow_inside, is_narrow_atom-else-is_narrow_inside}
use Rattle.nf_terms.proofs.narrow.+narrows.Goals as goal

-- whether a write is within the limit of weight, whatever is behind it
abbrev write_test : PolyTree × PolyTree → List (PolyTree × PolyTree) → Bool
write_test w ws =
    is_light (polynomial_in w.0) && narrow_inside (polynomial_in w.0) && is_light (polynomial_in w.1) && narrow_inside (polynomial_in w.1)

abbrev narrow_list : List (PolyTree × PolyTree) → Bool
narrow_list ws = narrow_writes (writes_of (map write_in ws))

pub is_narrow_mono-loop-atom-preserved : goal.is_narrow_mono-loop-atom-preserved
is_narrow_mono-loop-atom-preserved t c =
    let xs = c.deref-atom-items.result.now in
    let i = c.loop-atom.atom-index in
    ap (λ b. b && narrow_monomial (monomial_of (map atom_in (drop (i + 1) xs)))) (sym c.if-not-is_narrow_atom.false ∙ c.is_narrow_atom.ensures)
    ∙ ap (λ ys. narrow_monomial (monomial_of ys)) (sym (map_drop_next atom_in xs i c.atom-item.result c.loop-atom-test.true c.atom-item.is))
    ∙ c.loop-atom.invariant

pub is_narrow_inside-loop-mono-preserved : goal.is_narrow_inside-loop-mono-preserved
is_narrow_inside-loop-mono-preserved t c =
    let xs = c.deref-mono-items.result.now in
    let i = c.loop-mono.mono-index in
    ap (λ b. b && narrow_inside (polynomial_of (map term_in (drop (i + 1) xs)))) (sym c.if-not-is_narrow_mono.false ∙ c.is_narrow_mono.ensures)
    ∙ ap (λ ys. narrow_inside (polynomial_of ys)) (sym (map_drop_next term_in xs i c.loop-mono-item.result c.loop-mono-test.true c.loop-mono-item.is))
    ∙ c.loop-mono.invariant

pub is_narrow_mono-returns-then-not-is_narrow_atom : goal.is_narrow_mono-returns-then-not-is_narrow_atom
is_narrow_mono-returns-then-not-is_narrow_atom t c =
    let xs = c.deref-atom-items.result.now in
    let i = c.loop-atom.atom-index in
    ap (λ b. b && narrow_monomial (monomial_of (map atom_in (drop (i + 1) xs)))) (sym c.if-not-is_narrow_atom.true ∙ c.is_narrow_atom.ensures)
    ∙ ap (λ ys. narrow_monomial (monomial_of ys)) (sym (map_drop_next atom_in xs i c.atom-item.result c.loop-atom-test.true c.atom-item.is))
    ∙ c.loop-atom.invariant

pub is_narrow_mono-returns : goal.is_narrow_mono-returns
is_narrow_mono-returns t c =
    sym (at_drop_all (λ ys. narrow_monomial (monomial_of (map atom_in ys))) c.deref-atom-items.result.now c.loop-atom.atom-index c.loop-atom-test.false)
    ∙ c.loop-atom.invariant

pub is_narrow_inside-returns-then-not-is_narrow_mono : goal.is_narrow_inside-returns-then-not-is_narrow_mono
is_narrow_inside-returns-then-not-is_narrow_mono t c =
    let xs = c.deref-mono-items.result.now in
    let i = c.loop-mono.mono-index in
    ap (λ b. b && narrow_inside (polynomial_of (map term_in (drop (i + 1) xs)))) (sym c.if-not-is_narrow_mono.true ∙ c.is_narrow_mono.ensures)
    ∙ ap (λ ys. narrow_inside (polynomial_of ys)) (sym (map_drop_next term_in xs i c.loop-mono-item.result c.loop-mono-test.true c.loop-mono-item.is))
    ∙ c.loop-mono.invariant

pub is_narrow_inside-returns : goal.is_narrow_inside-returns
is_narrow_inside-returns t c =
    sym (at_drop_all (λ ys. narrow_inside (polynomial_of (map term_in ys))) c.deref-mono-items.result.now c.loop-mono.mono-index c.loop-mono-test.false)
    ∙ c.loop-mono.invariant

pub is_narrow_arr-returns-then-not-is_light : goal.is_narrow_arr-returns-then-not-is_light
is_narrow_arr-returns-then-not-is_light t c =
    let xs = c.deref-index-items.result.now in
    let i = c.loop-index.index-index in
    let x = c.loop-index-item.result in
    sym (fails write_test narrow_list (λ w ws. refl) xs i x c.loop-index-test.true c.loop-index-item.is
    (ap (λ b. b && narrow_inside (polynomial_in x.0) && is_light (polynomial_in x.1) && narrow_inside (polynomial_in x.1))
    (sym c.is_light.ensures ∙ c.if-not-is_light.true)))
    ∙ c.loop-index.invariant

pub is_narrow_arr-returns-then-not-is_narrow_inside : goal.is_narrow_arr-returns-then-not-is_narrow_inside
is_narrow_arr-returns-then-not-is_narrow_inside t c =
    let xs = c.deref-index-items.result.now in
    let i = c.loop-index.index-index in
    let x = c.loop-index-item.result in
    sym (fails write_test narrow_list (λ w ws. refl) xs i x c.loop-index-test.true c.loop-index-item.is
    (ap (λ b. b && is_light (polynomial_in x.1) && narrow_inside (polynomial_in x.1))
    (second_fails (is_light (polynomial_in x.0)) _ (sym c.is_narrow_inside.ensures ∙ c.if-not-is_narrow_inside.true))))
    ∙ c.loop-index.invariant

pub is_narrow_arr-returns-then-not-is_light-2 : goal.is_narrow_arr-returns-then-not-is_light-2
is_narrow_arr-returns-then-not-is_light-2 t c =
    let xs = c.deref-index-items.result.now in
    let i = c.loop-index.index-index in
    let x = c.loop-index-item.result in
    sym (fails write_test narrow_list (λ w ws. refl) xs i x c.loop-index-test.true c.loop-index-item.is
    (ap (λ b. b && narrow_inside (polynomial_in x.1))
    (second_fails (is_light (polynomial_in x.0) && narrow_inside (polynomial_in x.0)) _
    (sym c.is_light-in-loop-index.ensures ∙ c.if-not-is_light-2.true))))
    ∙ c.loop-index.invariant

pub is_narrow_arr-returns-then-not-is_narrow_inside-2 : goal.is_narrow_arr-returns-then-not-is_narrow_inside-2
is_narrow_arr-returns-then-not-is_narrow_inside-2 t c =
    let xs = c.deref-index-items.result.now in
    let i = c.loop-index.index-index in
    let x = c.loop-index-item.result in
    sym (fails write_test narrow_list (λ w ws. refl) xs i x c.loop-index-test.true c.loop-index-item.is
    (second_fails (is_light (polynomial_in x.0) && narrow_inside (polynomial_in x.0) && is_light (polynomial_in x.1)) _
    (sym c.is_narrow_inside-in-loop-index.ensures ∙ c.if-not-is_narrow_inside-2.true)))
    ∙ c.loop-index.invariant

pub is_narrow_arr-loop-index-preserved : goal.is_narrow_arr-loop-index-preserved
is_narrow_arr-loop-index-preserved t c =
    let xs = c.deref-index-items.result.now in
    let i = c.loop-index.index-index in
    let x = c.loop-index-item.result in
    holds write_test narrow_list (λ w ws. refl) xs i x c.loop-index-test.true c.loop-index-item.is
    (and_from _ _ (and_from _ _ (and_from _ _ (sym c.is_light.ensures ∙ c.if-not-is_light.false)
    (sym c.is_narrow_inside.ensures ∙ c.if-not-is_narrow_inside.false)) (sym c.is_light-in-loop-index.ensures ∙ c.if-not-is_light-2.false))
    (sym c.is_narrow_inside-in-loop-index.ensures ∙ c.if-not-is_narrow_inside-2.false))
    ∙ c.loop-index.invariant

pub is_narrow_arr-returns : goal.is_narrow_arr-returns
is_narrow_arr-returns t c =
    sym (at_drop_all narrow_list c.deref-index-items.result.now c.loop-index.index-index c.loop-index-test.false)
    ∙ c.loop-index.invariant

pub is_narrow_mono-loop-atom-init : goal.is_narrow_mono-loop-atom-init
is_narrow_mono-loop-atom-init t c =
    ap (λ xs. narrow_monomial (monomial_of (map atom_in xs))) c.deref-atom-items.ensures.value ∙ sym (ap narrow_monomial (monomial_in-is c.args.mono.now))

pub is_narrow_inside-loop-mono-init : goal.is_narrow_inside-loop-mono-init
is_narrow_inside-loop-mono-init t c =
    ap (λ xs. narrow_inside (polynomial_of (map term_in xs))) c.deref-mono-items.ensures.value ∙ sym (ap narrow_inside (polynomial_in-is c.args.poly.now))

pub is_narrow_arr-loop-index-init : goal.is_narrow_arr-loop-index-init
is_narrow_arr-loop-index-init t c = ap narrow_list c.deref-index-items.ensures.value ∙ sym (ap narrow_array (array_in-is c.args.arr.now))

pub is_narrow_atom-returns-then-is_light : goal.is_narrow_atom-returns-then-is_light
is_narrow_atom-returns-then-is_light t c =
    let before = narrow_array (array_in c.in-Read.array.value) in
    let light = is_light (polynomial_in c.in-Read.index.value) in
    let array = c.is_narrow_arr.ensures ∙ ap (λ a. narrow_array (array_in a)) c.deref.ensures in
    let tests : c.if-is_narrow_arr.value ≡ (before && light) = elim c.if-is_narrow_arr.branch [
      | is_narrow_atom-then-is_narrow_arr w ↦ one_more_test before light array w.if-is_narrow_arr.true
          (w.value-is ∙ w.is_light.ensures ∙ ap (λ i. is_light (polynomial_in i)) w.deref-then-is_narrow_arr.ensures)
      | is_narrow_atom-else-is_narrow_arr w ↦ no_more_test before light array w.if-is_narrow_arr.false w.value-is
    ] in
    c.is_narrow_inside.ensures
    ∙ ap (λ i. narrow_inside (polynomial_in i)) c.deref-then-is_light.ensures
    ∙ sym (ap narrow_atom (atom_of_read c.args.atom.now c.in-Read.array c.in-Read.index c.in-Read.is)
    ∙ ap (λ b. b && narrow_inside (polynomial_in c.in-Read.index.value)) (sym tests ∙ c.if-is_light.true))

pub is_narrow_atom-returns-else-is_light : goal.is_narrow_atom-returns-else-is_light
is_narrow_atom-returns-else-is_light t c =
    let before = narrow_array (array_in c.in-Read.array.value) in
    let light = is_light (polynomial_in c.in-Read.index.value) in
    let array = c.is_narrow_arr.ensures ∙ ap (λ a. narrow_array (array_in a)) c.deref.ensures in
    let tests : c.if-is_narrow_arr.value ≡ (before && light) = elim c.if-is_narrow_arr.branch [
      | is_narrow_atom-then-is_narrow_arr w ↦ one_more_test before light array w.if-is_narrow_arr.true
          (w.value-is ∙ w.is_light.ensures ∙ ap (λ i. is_light (polynomial_in i)) w.deref-then-is_narrow_arr.ensures)
      | is_narrow_atom-else-is_narrow_arr w ↦ no_more_test before light array w.if-is_narrow_arr.false w.value-is
    ] in
    c.if-is_light.false
    ∙ sym (ap narrow_atom (atom_of_read c.args.atom.now c.in-Read.array c.in-Read.index c.in-Read.is)
    ∙ ap (λ b. b && narrow_inside (polynomial_in c.in-Read.index.value)) (sym tests ∙ c.if-is_light.false))

pub is_narrow_atom-returns-then-is_light-3 : goal.is_narrow_atom-returns-then-is_light-3
is_narrow_atom-returns-then-is_light-3 t c =
    let left = polynomial_in c.in-Div.left.value in
    let right = is_light (polynomial_in c.in-Div.right.value) in
    let light = c.is_light-in-Div.ensures ∙ ap (λ p. is_light (polynomial_in p)) c.deref-in-Div.ensures in
    let before : c.if-is_light-2.value ≡ (is_light left && narrow_inside left) = elim c.if-is_light-2.branch [
      | is_narrow_atom-then-is_light-2 w ↦ one_more_test (is_light left) (narrow_inside left) light w.if-is_light-2.true
          (w.value-is ∙ w.is_narrow_inside-then-is_light-2.ensures ∙ ap (λ p. narrow_inside (polynomial_in p)) w.deref-then-is_light-2.ensures)
      | is_narrow_atom-else-is_light-2 w ↦ no_more_test (is_light left) (narrow_inside left) light w.if-is_light-2.false w.value-is
    ] in
    let tests : c.if-is_narrow_inside.value ≡ (is_light left && narrow_inside left && right) = elim c.if-is_narrow_inside.branch [
      | is_narrow_atom-then-is_narrow_inside w ↦ one_more_test (is_light left && narrow_inside left) right before w.if-is_narrow_inside.true
          (w.value-is ∙ w.is_light-then-is_narrow_inside.ensures ∙ ap (λ p. is_light (polynomial_in p)) w.deref-then-is_narrow_inside.ensures)
      | is_narrow_atom-else-is_narrow_inside w ↦ no_more_test (is_light left && narrow_inside left) right before w.if-is_narrow_inside.false w.value-is
    ] in
    c.is_narrow_inside-then-is_light-3.ensures
    ∙ ap (λ p. narrow_inside (polynomial_in p)) c.deref-then-is_light-3.ensures
    ∙ sym (of_division narrow_atom c.args.atom.now c.in-Div.left c.in-Div.right refl c.in-Div.is
    ∙ ap (λ b. b && narrow_inside (polynomial_in c.in-Div.right.value)) (sym tests ∙ c.if-is_light-3.true))

pub is_narrow_atom-returns-else-is_light-3 : goal.is_narrow_atom-returns-else-is_light-3
is_narrow_atom-returns-else-is_light-3 t c =
    let left = polynomial_in c.in-Div.left.value in
    let right = is_light (polynomial_in c.in-Div.right.value) in
    let light = c.is_light-in-Div.ensures ∙ ap (λ p. is_light (polynomial_in p)) c.deref-in-Div.ensures in
    let before : c.if-is_light-2.value ≡ (is_light left && narrow_inside left) = elim c.if-is_light-2.branch [
      | is_narrow_atom-then-is_light-2 w ↦ one_more_test (is_light left) (narrow_inside left) light w.if-is_light-2.true
          (w.value-is ∙ w.is_narrow_inside-then-is_light-2.ensures ∙ ap (λ p. narrow_inside (polynomial_in p)) w.deref-then-is_light-2.ensures)
      | is_narrow_atom-else-is_light-2 w ↦ no_more_test (is_light left) (narrow_inside left) light w.if-is_light-2.false w.value-is
    ] in
    let tests : c.if-is_narrow_inside.value ≡ (is_light left && narrow_inside left && right) = elim c.if-is_narrow_inside.branch [
      | is_narrow_atom-then-is_narrow_inside w ↦ one_more_test (is_light left && narrow_inside left) right before w.if-is_narrow_inside.true
          (w.value-is ∙ w.is_light-then-is_narrow_inside.ensures ∙ ap (λ p. is_light (polynomial_in p)) w.deref-then-is_narrow_inside.ensures)
      | is_narrow_atom-else-is_narrow_inside w ↦ no_more_test (is_light left && narrow_inside left) right before w.if-is_narrow_inside.false w.value-is
    ] in
    c.if-is_light-3.false
    ∙ sym (of_division narrow_atom c.args.atom.now c.in-Div.left c.in-Div.right refl c.in-Div.is
    ∙ ap (λ b. b && narrow_inside (polynomial_in c.in-Div.right.value)) (sym tests ∙ c.if-is_light-3.false))
