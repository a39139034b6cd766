use Rattle.std.proofs.Common.{◌≡◌, ◌+◌, OnOk, ap, subst, sym, ◌∙◌, map, drop}
use Rattle.std.proofs.lemmas.List.{at_drop_all}
use Rattle.fs_model.proofs.Lists.{map_drop_next}
use Rattle.nf_trees.specs.NormalTerms.{monomial_of, polynomial_of, writes_of}
use Rattle.nf_symbols.specs.GatheredSymbols.{with_atom, with_monomial, with_polynomial, with_writes, with_array}
use Rattle.nf_trees.specs.View.{atom_in, polynomial_in, array_in, term_in, write_in}
use Rattle.nf_trees.proofs.TreeParts.{atom_of_read}
use Rattle.nf_trees.proofs.Compared.{polynomial_in-is}
use Rattle.nf_trees.proofs.Degrees.{monomial_in-is}
use Rattle.nf_symbols.proofs.Gathered.{with_pair}
use Rattle.nf_terms.proofs.LastWrite.{array_in-is}
use Rattle.nf_symbols.proofs.gathering.+symbols.Goals as goal

pub add_mono-loop-atom-preserved : goal.add_mono-loop-atom-preserved
add_mono-loop-atom-preserved t c =
    let xs = c.deref-atom-items.result.now in
    let i = c.loop-atom.atom-index in
    ap (λ l. with_monomial l (monomial_of (map atom_in (drop (i + 1) xs)))) c.in_ok-add_atom.ensures
    ∙ ap (λ ys. with_monomial c.loop-atom.out.items (monomial_of ys))
    (sym (map_drop_next atom_in xs i c.atom-item.result c.loop-atom-test.true c.atom-item.is))
    ∙ c.loop-atom.invariant

pub add_poly-loop-mono-preserved : goal.add_poly-loop-mono-preserved
add_poly-loop-mono-preserved t c =
    let xs = c.deref-mono-items.result.now in
    let i = c.loop-mono.mono-index in
    ap (λ l. with_polynomial l (polynomial_of (map term_in (drop (i + 1) xs)))) c.in_ok-add_mono.ensures
    ∙ ap (λ ys. with_polynomial c.loop-mono.out.items (polynomial_of ys))
    (sym (map_drop_next term_in xs i c.loop-mono-item.result c.loop-mono-test.true c.loop-mono-item.is))
    ∙ c.loop-mono.invariant

pub add_arr-loop-index-preserved : goal.add_arr-loop-index-preserved
add_arr-loop-index-preserved t c =
    let xs = c.deref-index-items.result.now in
    let i = c.loop-index.index-index in
    let x = c.loop-index-item.result in
    ap (λ l. with_writes l (writes_of (map write_in (drop (i + 1) xs))))
    (c.in_ok-add_poly-2.ensures ∙ ap (λ l. with_polynomial l (polynomial_in x.1)) c.in_ok-add_poly.ensures)
    ∙ ap (λ ys. with_writes c.loop-index.out.items (writes_of ys)) (sym (map_drop_next write_in xs i x c.loop-index-test.true c.loop-index-item.is))
    ∙ c.loop-index.invariant

pub add_mono-returns : goal.add_mono-returns
add_mono-returns t c =
    let old = c.args.out.now.items in
    sym (at_drop_all (λ ys. with_monomial c.loop-atom.out.items (monomial_of (map atom_in ys)))
    c.deref-atom-items.result.now c.loop-atom.atom-index c.loop-atom-test.false)
    ∙ c.loop-atom.invariant
    ∙ ap (λ ys. with_monomial old (monomial_of (map atom_in ys))) c.deref-atom-items.ensures.value
    ∙ ap (with_monomial old) (sym (monomial_in-is c.args.mono.now))

pub add_poly-returns : goal.add_poly-returns
add_poly-returns t c =
    let old = c.args.out.now.items in
    sym (at_drop_all (λ ys. with_polynomial c.loop-mono.out.items (polynomial_of (map term_in ys)))
    c.deref-mono-items.result.now c.loop-mono.mono-index c.loop-mono-test.false)
    ∙ c.loop-mono.invariant
    ∙ ap (λ ys. with_polynomial old (polynomial_of (map term_in ys))) c.deref-mono-items.ensures.value
    ∙ ap (with_polynomial old) (sym (polynomial_in-is c.args.poly.now))

pub add_arr-returns : goal.add_arr-returns
add_arr-returns t c =
    sym (at_drop_all (λ ys. with_writes c.loop-index.out.items (writes_of (map write_in ys)))
    c.deref-index-items.result.now c.loop-index.index-index c.loop-index-test.false)
    ∙ c.loop-index.invariant
    ∙ (λ j. with_writes (c.in_ok-push_base.ensures j) (writes_of (map write_in (c.deref-index-items.ensures.value j))))
    ∙ ap (with_array c.args.out.now.items) (sym (array_in-is c.args.arr.now))

pub add_atom-returns-in_ok-add_arr-in-Read : goal.add_atom-returns-in_ok-add_arr-in-Read
add_atom-returns-in_ok-add_arr-in-Read t c =
    let old = c.args.out.now.items in
    let index = c.in-Read.index in
    let parts = (λ j. with_polynomial (c.in_ok-add_arr-in-Read.ensures j) (polynomial_in (c.deref-in-Read.ensures j)))
    ∙ ap (λ d. with_polynomial (with_array old (array_in d)) (polynomial_in index.value)) c.deref.ensures
    ∙ ap (with_atom old) (sym (atom_of_read c.args.atom.now c.in-Read.array index c.in-Read.is)) in
    subst (λ l. OnOk c.add_poly.result (c.add_poly.new.out.items ≡ l)) parts c.add_poly.ensures

pub add_atom-returns-in_ok-add_poly-in-Div : goal.add_atom-returns-in_ok-add_poly-in-Div
add_atom-returns-in_ok-add_poly-in-Div t c =
    let old = c.args.out.now.items in
    let left = c.in-Div.left in
    let right = c.in-Div.right in
    let parts = (λ j. with_polynomial (c.in_ok-add_poly-in-Div.ensures j) (polynomial_in (c.deref-in-Div-2.ensures j)))
    ∙ ap (λ d. with_polynomial (with_polynomial old (polynomial_in d)) (polynomial_in right.value)) c.deref-in-Div.ensures
    ∙ sym (with_pair old c.args.atom.now left right c.in-Div.is) in
    subst (λ l. OnOk c.add_poly-in-Div-2.result (c.add_poly-in-Div-2.new.out.items ≡ l)) parts c.add_poly-in-Div-2.ensures
