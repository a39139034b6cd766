use Rattle.std.proofs.Common.{◌+◌, min, max, map, refl, ap, sym, ◌∙◌, arith}
use Rattle.std.proofs.lemmas.List.{at_drop_all}
use Rattle.nf_trees.specs.NormalTerms.{monomial_of, polynomial_of, writes_of}
use Rattle.nf_trees.specs.View.{atom_in, polynomial_in, array_in, term_in, write_in}
use Rattle.nf_trees.specs.Measures.{depth_of_atom, depth_of_monomial, depth_of, depth_of_writes, depth_of_array}
use Rattle.nf_trees.proofs.Capped.{greatest_more}
use Rattle.nf_trees.proofs.Compared.{array_in-is, polynomial_in-is}
use Rattle.nf_trees.proofs.Degrees.{monomial_in-is}
use Rattle.nf_trees.proofs.TreeParts.{atom_of_read, of_division}
use Rattle.nf_trees.proofs.measures.+depths.Goals as goal

pub depth_of_mono-loop-atom-preserved : goal.depth_of_mono-loop-atom-preserved
depth_of_mono-loop-atom-preserved t c = (
  omega (arith, c.max-deepest.type_inv),
  greatest_more atom_in (λ as'. depth_of_monomial (monomial_of as')) depth_of_atom (λ a as'. refl) 4294967295 c.loop-atom.deepest c.max-deepest.result
      c.deref-atom-items.result.now c.loop-atom.atom-index c.atom-item.result c.loop-atom.invariant.0
      (c.max-deepest.ensures ∙ ap (max c.loop-atom.deepest) c.depth_of_atom.ensures) c.loop-atom-test.true c.atom-item.is
      ∙ c.loop-atom.invariant.1,
)

pub depth_of_poly-loop-mono-preserved : goal.depth_of_poly-loop-mono-preserved
depth_of_poly-loop-mono-preserved t c = (
  omega (arith, c.max-deepest.type_inv),
  greatest_more term_in (λ ts. depth_of (polynomial_of ts)) (λ m. depth_of_monomial m.0) (λ m ts. refl) 4294967295 c.loop-mono.deepest
      c.max-deepest.result c.deref-mono-items.result.now c.loop-mono.mono-index c.loop-mono-item.result c.loop-mono.invariant.0
      (c.max-deepest.ensures ∙ ap (max c.loop-mono.deepest) c.depth_of_mono.ensures) c.loop-mono-test.true c.loop-mono-item.is
      ∙ c.loop-mono.invariant.1,
)

pub depth_of_arr-loop-index-preserved : goal.depth_of_arr-loop-index-preserved
depth_of_arr-loop-index-preserved t c = (
  omega (arith, c.max-deepest.type_inv),
  greatest_more write_in (λ ws. depth_of_writes (writes_of ws)) (λ w. 1 + max (depth_of w.0) (depth_of w.1)) (λ w ws. refl) 4294967295
      c.loop-index.deepest c.max-deepest.result c.deref-index-items.result.now c.loop-index.index-index c.loop-index-item.result c.loop-index.invariant.0
      (omega (arith, c.max-deepest.ensures, c.saturating_add-write.ensures, c.max.ensures, c.depth_of_poly.ensures, c.depth_of_poly-in-loop-index.ensures))
      c.loop-index-test.true c.loop-index-item.is
      ∙ c.loop-index.invariant.1,
)

pub depth_of_mono-returns : goal.depth_of_mono-returns
depth_of_mono-returns t c =
    let nothing = at_drop_all (λ ys. depth_of_monomial (monomial_of (map atom_in ys)))
    c.deref-atom-items.result.now c.loop-atom.atom-index c.loop-atom-test.false in
    omega (arith, nothing, c.loop-atom.invariant.0, c.loop-atom.invariant.1)

pub depth_of_poly-returns : goal.depth_of_poly-returns
depth_of_poly-returns t c =
    let nothing = at_drop_all (λ ys. depth_of (polynomial_of (map term_in ys)))
    c.deref-mono-items.result.now c.loop-mono.mono-index c.loop-mono-test.false in
    omega (arith, nothing, c.loop-mono.invariant.0, c.loop-mono.invariant.1)

pub depth_of_arr-returns : goal.depth_of_arr-returns
depth_of_arr-returns t c =
    let nothing = at_drop_all (λ ys. depth_of_writes (writes_of (map write_in ys)))
    c.deref-index-items.result.now c.loop-index.index-index c.loop-index-test.false in
    omega (arith, nothing, c.loop-index.invariant.0, c.loop-index.invariant.1)

pub depth_of_mono-loop-atom-init : goal.depth_of_mono-loop-atom-init
depth_of_mono-loop-atom-init t c =
    let all = ap (λ xs. depth_of_monomial (monomial_of (map atom_in xs))) c.deref-atom-items.ensures.value
    ∙ sym (ap depth_of_monomial (monomial_in-is c.args.mono.now)) in
    (omega arith, omega (arith, all))

pub depth_of_poly-loop-mono-init : goal.depth_of_poly-loop-mono-init
depth_of_poly-loop-mono-init t c =
    let all = ap (λ xs. depth_of (polynomial_of (map term_in xs))) c.deref-mono-items.ensures.value ∙ sym (ap depth_of (polynomial_in-is c.args.poly.now)) in
    (omega arith, omega (arith, all))

pub depth_of_arr-loop-index-init : goal.depth_of_arr-loop-index-init
depth_of_arr-loop-index-init t c =
    let all = ap (λ xs. depth_of_writes (writes_of (map write_in xs))) c.deref-index-items.ensures.value
    ∙ sym (ap depth_of_array (array_in-is c.args.arr.now)) in
    (omega arith, omega (arith, all))

pub depth_of_atom-returns-in-Read : goal.depth_of_atom-returns-in-Read
depth_of_atom-returns-in-Read t c =
    let array = c.depth_of_arr.ensures ∙ ap (λ a. min (depth_of_array (array_in a)) 4294967295) c.deref.ensures in
    let index = c.depth_of_poly.ensures ∙ ap (λ i. min (depth_of (polynomial_in i)) 4294967295) c.deref-in-Read.ensures in
    let whole = ap depth_of_atom (atom_of_read c.args.atom.now c.in-Read.array c.in-Read.index c.in-Read.is) in
    omega (arith, array, index, whole, c.saturating_add.ensures, c.max.ensures)

pub depth_of_atom-returns-in-Div : goal.depth_of_atom-returns-in-Div
depth_of_atom-returns-in-Div t c =
    let left = c.depth_of_poly-in-Div.ensures ∙ ap (λ l. min (depth_of (polynomial_in l)) 4294967295) c.deref-in-Div.ensures in
    let right = c.depth_of_poly-in-Div-2.ensures ∙ ap (λ r. min (depth_of (polynomial_in r)) 4294967295) c.deref-in-Div-2.ensures in
    let whole = of_division depth_of_atom c.args.atom.now c.in-Div.left c.in-Div.right refl c.in-Div.is in
    omega (arith, left, right, whole, c.max-in-Div.ensures, c.saturating_add-in-Div.ensures)
