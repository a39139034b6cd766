use Rattle.std.proofs.Common.{◌+◌, min, map, refl, ap, sym, ◌∙◌, arith}
use Rattle.std.proofs.lemmas.List.{at_drop_all}
use Rattle.nf_trees.specs.NormalTerms.{monomial_of, polynomial_of, writes_of}
use Rattle.nf_trees.specs.View.{atom_in, polynomial_in, array_in, term_in, write_in}
use Rattle.nf_trees.specs.Measures.{size_of_atom, size_of_monomial, size_of, size_of_writes, size_of_array}
use Rattle.nf_trees.proofs.Capped.{sum_more}
use Rattle.nf_trees.proofs.Compared.{array_in-is, polynomial_in-is}
use Rattle.nf_trees.proofs.Degrees.{monomial_in-is}
use Rattle.nf_trees.proofs.TreeParts.{atom_of_read, of_division}
use Rattle.nf_trees.proofs.measures.+sizes.Goals as goal

pub size_of_mono-loop-atom-preserved : goal.size_of_mono-loop-atom-preserved
size_of_mono-loop-atom-preserved t c = (
  omega (arith, c.saturating_add-total.type_inv),
  sum_more atom_in (λ as'. size_of_monomial (monomial_of as')) size_of_atom (λ a as'. refl) 18446744073709551615 c.loop-atom.total
      c.saturating_add-total.result c.deref-atom-items.result.now c.loop-atom.atom-index c.atom-item.result
      (omega (arith, c.saturating_add-total.ensures, c.size_of_atom.ensures)) c.loop-atom-test.true c.atom-item.is
      ∙ c.loop-atom.invariant.1,
)

pub size_of_poly-loop-mono-preserved : goal.size_of_poly-loop-mono-preserved
size_of_poly-loop-mono-preserved t c = (
  omega (arith, c.saturating_add-total.type_inv),
  sum_more term_in (λ ts. size_of (polynomial_of ts)) (λ m. 1 + size_of_monomial m.0) (λ m ts. refl) 18446744073709551615 c.loop-mono.total
      c.saturating_add-total.result c.deref-mono-items.result.now c.loop-mono.mono-index c.loop-mono-item.result
      (omega (arith, c.saturating_add-total.ensures, c.saturating_add.ensures, c.size_of_mono.ensures)) c.loop-mono-test.true c.loop-mono-item.is
      ∙ c.loop-mono.invariant.1,
)

pub size_of_arr-loop-index-preserved : goal.size_of_arr-loop-index-preserved
size_of_arr-loop-index-preserved t c = (
  omega (arith, c.saturating_add-total.type_inv),
  sum_more write_in (λ ws. size_of_writes (writes_of ws)) (λ w. 1 + size_of w.0 + size_of w.1) (λ w ws. refl) 18446744073709551615 c.loop-index.total
      c.saturating_add-total.result c.deref-index-items.result.now c.loop-index.index-index c.loop-index-item.result
      (omega (
        arith,
        c.saturating_add-total.ensures,
        c.saturating_add-in-loop-index.ensures,
        c.size_of_poly-in-loop-index.ensures,
        c.saturating_add.ensures,
        c.size_of_poly.ensures,
      ))
      c.loop-index-test.true c.loop-index-item.is
      ∙ c.loop-index.invariant.1,
)

pub size_of_mono-returns : goal.size_of_mono-returns
size_of_mono-returns t c =
    let nothing = at_drop_all (λ ys. size_of_monomial (monomial_of (map atom_in ys)))
    c.deref-atom-items.result.now c.loop-atom.atom-index c.loop-atom-test.false in
    omega (arith, nothing, c.loop-atom.invariant.0, c.loop-atom.invariant.1)

pub size_of_poly-returns : goal.size_of_poly-returns
size_of_poly-returns t c =
    let nothing = at_drop_all (λ ys. size_of (polynomial_of (map term_in ys)))
    c.deref-mono-items.result.now c.loop-mono.mono-index c.loop-mono-test.false in
    omega (arith, nothing, c.loop-mono.invariant.0, c.loop-mono.invariant.1)

pub size_of_arr-returns : goal.size_of_arr-returns
size_of_arr-returns t c =
    let nothing = at_drop_all (λ ys. size_of_writes (writes_of (map write_in ys)))
    c.deref-index-items.result.now c.loop-index.index-index c.loop-index-test.false in
    omega (arith, nothing, c.loop-index.invariant.0, c.loop-index.invariant.1)

pub size_of_mono-loop-atom-init : goal.size_of_mono-loop-atom-init
size_of_mono-loop-atom-init t c =
    let all = ap (λ xs. size_of_monomial (monomial_of (map atom_in xs))) c.deref-atom-items.ensures.value
    ∙ sym (ap size_of_monomial (monomial_in-is c.args.mono.now)) in
    (omega arith, omega (arith, all))

pub size_of_poly-loop-mono-init : goal.size_of_poly-loop-mono-init
size_of_poly-loop-mono-init t c =
    let all = ap (λ xs. size_of (polynomial_of (map term_in xs))) c.deref-mono-items.ensures.value ∙ sym (ap size_of (polynomial_in-is c.args.poly.now)) in
    (omega arith, omega (arith, all))

pub size_of_arr-loop-index-init : goal.size_of_arr-loop-index-init
size_of_arr-loop-index-init t c =
    let all = ap (λ xs. 1 + size_of_writes (writes_of (map write_in xs))) c.deref-index-items.ensures.value
    ∙ sym (ap size_of_array (array_in-is c.args.arr.now)) in
    (omega arith, omega (arith, all))

pub size_of_atom-returns-in-Read : goal.size_of_atom-returns-in-Read
size_of_atom-returns-in-Read t c =
    let index = c.size_of_poly-index.ensures ∙ ap (λ i. min (size_of (polynomial_in i)) 18446744073709551615) c.deref.ensures in
    let array = c.size_of_arr.ensures ∙ ap (λ a. min (size_of_array (array_in a)) 18446744073709551615) c.deref-in-Read.ensures in
    let whole = ap size_of_atom (atom_of_read c.args.atom.now c.in-Read.array c.in-Read.index c.in-Read.is) in
    omega (arith, array, index, whole, c.saturating_add.ensures, c.saturating_add-in-Read.ensures)

pub size_of_atom-returns-in-Div : goal.size_of_atom-returns-in-Div
size_of_atom-returns-in-Div t c =
    let left = c.size_of_poly.ensures ∙ ap (λ l. min (size_of (polynomial_in l)) 18446744073709551615) c.deref-in-Div.ensures in
    let right = c.size_of_poly-in-Div.ensures ∙ ap (λ r. min (size_of (polynomial_in r)) 18446744073709551615) c.deref-in-Div-2.ensures in
    let whole = of_division size_of_atom c.args.atom.now c.in-Div.left c.in-Div.right refl c.in-Div.is in
    omega (arith, left, right, whole, c.saturating_add-in-Div.ensures, c.saturating_add-in-Div-2.ensures)
