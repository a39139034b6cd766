use Rattle.std.proofs.Common.{◌+◌, ◌||◌, refl, ap, sym, ◌∙◌, map, drop}
use Rattle.std.proofs.lemmas.List.{at_drop_all}
use Rattle.fs_model.proofs.Lists.{map_drop_next}
use Rattle.nf_trees.specs.NormalTerms.{monomial_of, polynomial_of, writes_of}
use Rattle.nf_trees.specs.Mentions.{mentions_atom, mentions_monomial, mentions, mentions_writes, mentions_array}
use Rattle.nf_trees.specs.View.{atom_in, polynomial_in, array_in, term_in, write_in}
use Rattle.nf_trees.specs.declared.tree.ArrTree.{out-ArrTree}
use Rattle.nf_trees.proofs.Compared.{array_in-is, polynomial_in-is}
use Rattle.nf_trees.proofs.Degrees.{monomial_in-is}
use Rattle.nf_trees.proofs.TreeParts.{atom_of_read, of_division}
use Rattle.nf_trees.proofs.mentions.+names.Goals as goal

pub mono_mentions-loop-atom-preserved : goal.mono_mentions-loop-atom-preserved
mono_mentions-loop-atom-preserved t c =
    let p = c.args.p.now in
    let xs = c.deref-atom-items.result.now in
    let i = c.loop-atom.atom-index in
    ap (λ b. b || mentions_monomial p (monomial_of (map atom_in (drop (i + 1) xs)))) (sym c.if-atom_mentions.false ∙ c.atom_mentions.ensures)
    ∙ ap (λ ys. mentions_monomial p (monomial_of ys)) (sym (map_drop_next atom_in xs i c.atom-item.result c.loop-atom-test.true c.atom-item.is))
    ∙ c.loop-atom.invariant

pub poly_mentions-loop-mono-preserved : goal.poly_mentions-loop-mono-preserved
poly_mentions-loop-mono-preserved t c =
    let p = c.args.p.now in
    let xs = c.deref-mono-items.result.now in
    let i = c.loop-mono.mono-index in
    ap (λ b. b || mentions p (polynomial_of (map term_in (drop (i + 1) xs)))) (sym c.if-mono_mentions.false ∙ c.mono_mentions.ensures)
    ∙ ap (λ ys. mentions p (polynomial_of ys)) (sym (map_drop_next term_in xs i c.loop-mono-item.result c.loop-mono-test.true c.loop-mono-item.is))
    ∙ c.loop-mono.invariant

pub mono_mentions-returns-then-atom_mentions : goal.mono_mentions-returns-then-atom_mentions
mono_mentions-returns-then-atom_mentions t c =
    let p = c.args.p.now in
    let xs = c.deref-atom-items.result.now in
    let i = c.loop-atom.atom-index in
    ap (λ b. b || mentions_monomial p (monomial_of (map atom_in (drop (i + 1) xs)))) (sym c.if-atom_mentions.true ∙ c.atom_mentions.ensures)
    ∙ ap (λ ys. mentions_monomial p (monomial_of ys)) (sym (map_drop_next atom_in xs i c.atom-item.result c.loop-atom-test.true c.atom-item.is))
    ∙ c.loop-atom.invariant

pub mono_mentions-returns : goal.mono_mentions-returns
mono_mentions-returns t c =
    sym (at_drop_all (λ ys. mentions_monomial c.args.p.now (monomial_of (map atom_in ys)))
    c.deref-atom-items.result.now c.loop-atom.atom-index c.loop-atom-test.false)
    ∙ c.loop-atom.invariant

pub poly_mentions-returns-then-mono_mentions : goal.poly_mentions-returns-then-mono_mentions
poly_mentions-returns-then-mono_mentions t c =
    let p = c.args.p.now in
    let xs = c.deref-mono-items.result.now in
    let i = c.loop-mono.mono-index in
    ap (λ b. b || mentions p (polynomial_of (map term_in (drop (i + 1) xs)))) (sym c.if-mono_mentions.true ∙ c.mono_mentions.ensures)
    ∙ ap (λ ys. mentions p (polynomial_of ys)) (sym (map_drop_next term_in xs i c.loop-mono-item.result c.loop-mono-test.true c.loop-mono-item.is))
    ∙ c.loop-mono.invariant

pub poly_mentions-returns : goal.poly_mentions-returns
poly_mentions-returns t c =
    sym (at_drop_all (λ ys. mentions c.args.p.now (polynomial_of (map term_in ys))) c.deref-mono-items.result.now c.loop-mono.mono-index c.loop-mono-test.false)
    ∙ c.loop-mono.invariant

pub arr_mentions-returns-then-poly_mentions : goal.arr_mentions-returns-then-poly_mentions
arr_mentions-returns-then-poly_mentions t c =
    let p = c.args.p.now in
    let xs = c.deref-index-items.result.now in
    let i = c.loop-index.index-index in
    let x = c.loop-index-item.result in
    let later = mentions_writes p (writes_of (map write_in (drop (i + 1) xs))) in
    ap (λ b. b || mentions p (polynomial_in x.1) || later) (sym c.if-poly_mentions.true ∙ c.poly_mentions.ensures)
    ∙ ap (λ ys. mentions_writes p (writes_of ys)) (sym (map_drop_next write_in xs i x c.loop-index-test.true c.loop-index-item.is))
    ∙ c.loop-index.invariant

pub arr_mentions-returns-then-poly_mentions-2 : goal.arr_mentions-returns-then-poly_mentions-2
arr_mentions-returns-then-poly_mentions-2 t c =
    let p = c.args.p.now in
    let xs = c.deref-index-items.result.now in
    let i = c.loop-index.index-index in
    let x = c.loop-index-item.result in
    let later = mentions_writes p (writes_of (map write_in (drop (i + 1) xs))) in
    ap (λ b. b || later) (sym c.if-poly_mentions-2.true ∙ c.poly_mentions-in-loop-index.ensures)
    ∙ ap (λ b. b || mentions p (polynomial_in x.1) || later) (sym c.if-poly_mentions.false ∙ c.poly_mentions.ensures)
    ∙ ap (λ ys. mentions_writes p (writes_of ys)) (sym (map_drop_next write_in xs i x c.loop-index-test.true c.loop-index-item.is))
    ∙ c.loop-index.invariant

pub arr_mentions-loop-index-preserved : goal.arr_mentions-loop-index-preserved
arr_mentions-loop-index-preserved t c =
    let p = c.args.p.now in
    let xs = c.deref-index-items.result.now in
    let i = c.loop-index.index-index in
    let x = c.loop-index-item.result in
    let later = mentions_writes p (writes_of (map write_in (drop (i + 1) xs))) in
    ap (λ b. b || later) (sym c.if-poly_mentions-2.false ∙ c.poly_mentions-in-loop-index.ensures)
    ∙ ap (λ b. b || mentions p (polynomial_in x.1) || later) (sym c.if-poly_mentions.false ∙ c.poly_mentions.ensures)
    ∙ ap (λ ys. mentions_writes p (writes_of ys)) (sym (map_drop_next write_in xs i x c.loop-index-test.true c.loop-index-item.is))
    ∙ c.loop-index.invariant

pub arr_mentions-returns : goal.arr_mentions-returns
arr_mentions-returns t c =
    sym (at_drop_all (λ ys. mentions_writes c.args.p.now (writes_of (map write_in ys)))
    c.deref-index-items.result.now c.loop-index.index-index c.loop-index-test.false)
    ∙ c.loop-index.invariant

pub mono_mentions-loop-atom-init : goal.mono_mentions-loop-atom-init
mono_mentions-loop-atom-init t c =
    let p = c.args.p.now in
    ap (λ xs. mentions_monomial p (monomial_of (map atom_in xs))) c.deref-atom-items.ensures.value
    ∙ sym (ap (mentions_monomial p) (monomial_in-is c.args.mono.now))

pub poly_mentions-loop-mono-init : goal.poly_mentions-loop-mono-init
poly_mentions-loop-mono-init t c =
    let p = c.args.p.now in
    ap (λ xs. mentions p (polynomial_of (map term_in xs))) c.deref-mono-items.ensures.value ∙ sym (ap (mentions p) (polynomial_in-is c.args.poly.now))

pub arr_mentions-loop-index-init : goal.arr_mentions-loop-index-init
arr_mentions-loop-index-init t c =
    let p = c.args.p.now in
    let a = c.args.arr.now in
    ap (λ xs. mentions_writes p (writes_of (map write_in xs))) c.deref-index-items.ensures.value
    ∙ ap (λ b. b || mentions_writes p (writes_of (map write_in (out-ArrTree a).writes.items))) (sym (sym c.base_mentions.ensures ∙ c.if-base_mentions.false))
    ∙ sym (ap (mentions_array p) (array_in-is a))

pub arr_mentions-returns-then-base_mentions : goal.arr_mentions-returns-then-base_mentions
arr_mentions-returns-then-base_mentions t c =
    let p = c.args.p.now in
    let a = c.args.arr.now in
    sym (ap (mentions_array p) (array_in-is a)
    ∙ ap (λ b. b || mentions_writes p (writes_of (map write_in (out-ArrTree a).writes.items))) (sym c.base_mentions.ensures ∙ c.if-base_mentions.true))

pub atom_mentions-returns-then-arr_mentions : goal.atom_mentions-returns-then-arr_mentions
atom_mentions-returns-then-arr_mentions t c =
    let p = c.args.p.now in
    let array = c.arr_mentions.ensures ∙ ap (λ a. mentions_array p (array_in a)) c.deref.ensures in
    c.if-arr_mentions.true
    ∙ sym (ap (mentions_atom p) (atom_of_read c.args.atom.now c.in-Read.array c.in-Read.index c.in-Read.is)
    ∙ ap (λ b. b || mentions p (polynomial_in c.in-Read.index.value)) (sym array ∙ c.if-arr_mentions.true))

pub atom_mentions-returns-else-arr_mentions : goal.atom_mentions-returns-else-arr_mentions
atom_mentions-returns-else-arr_mentions t c =
    let p = c.args.p.now in
    let array = c.arr_mentions.ensures ∙ ap (λ a. mentions_array p (array_in a)) c.deref.ensures in
    c.poly_mentions.ensures
    ∙ ap (λ i. mentions p (polynomial_in i)) c.deref-else-arr_mentions.ensures
    ∙ sym (ap (mentions_atom p) (atom_of_read c.args.atom.now c.in-Read.array c.in-Read.index c.in-Read.is)
    ∙ ap (λ b. b || mentions p (polynomial_in c.in-Read.index.value)) (sym array ∙ c.if-arr_mentions.false))

pub atom_mentions-returns-then-poly_mentions : goal.atom_mentions-returns-then-poly_mentions
atom_mentions-returns-then-poly_mentions t c =
    let p = c.args.p.now in
    let left = c.poly_mentions-in-Div.ensures ∙ ap (λ l. mentions p (polynomial_in l)) c.deref-in-Div.ensures in
    c.if-poly_mentions.true
    ∙ sym (of_division (mentions_atom p) c.args.atom.now c.in-Div.left c.in-Div.right refl c.in-Div.is
    ∙ ap (λ b. b || mentions p (polynomial_in c.in-Div.right.value)) (sym left ∙ c.if-poly_mentions.true))

pub atom_mentions-returns-else-poly_mentions : goal.atom_mentions-returns-else-poly_mentions
atom_mentions-returns-else-poly_mentions t c =
    let p = c.args.p.now in
    let left = c.poly_mentions-in-Div.ensures ∙ ap (λ l. mentions p (polynomial_in l)) c.deref-in-Div.ensures in
    c.poly_mentions-else-poly_mentions.ensures
    ∙ ap (λ r. mentions p (polynomial_in r)) c.deref-else-poly_mentions.ensures
    ∙ sym (of_division (mentions_atom p) c.args.atom.now c.in-Div.left c.in-Div.right refl c.in-Div.is
    ∙ ap (λ b. b || mentions p (polynomial_in c.in-Div.right.value)) (sym left ∙ c.if-poly_mentions.false))
