use Rattle.std.proofs.Common.{rules, ◌≡◌, ◌+◌, ◌++◌, map, drop, refl, ap, sym, ◌∙◌}
use Rattle.std.proofs.lemmas.List.{at_drop_all}
use Rattle.fs_model.proofs.Lists.{map_drop_next}
use Rattle.nf_trees.specs.NormalTerms.{monomial_of, polynomial_of, writes_of}
use Rattle.nf_trees.proofs.Compared.{polynomial_in-is}
use Rattle.nf_trees.proofs.Degrees.{monomial_in-is}
use Rattle.nf_terms.proofs.LastWrite.{array_in-is}
use Rattle.nf_terms.specs.Symbols.{symbols_of_base, symbols_of_atom, symbols_of_monomial, symbols_of, symbols_of_writes, symbols_of_array}
use Rattle.nf_trees.specs.View.{atom_in, monomial_in, polynomial_in, array_in, term_in, write_in}
use Rattle.nf_trees.specs.declared.tree.ArrTree.{out-ArrTree}
use Rattle.nf_trees.specs.declared.tree.Atom.{the_lemmas}
use Rattle.sym_facts.specs.PositionSets.{with_symbols}
use Rattle.sym_facts.specs.View.{set_in}
use Rattle.sym_facts.proofs.MentionedPositions.{added, rest_left}
use Rattle.sym_facts.proofs.mentioned.+mentioned.Goals as goal

pub add_atom-returns-in-Read : goal.add_atom-returns-in-Read
add_atom-returns-in-Read t c =
    let whole : symbols_of_atom (atom_in c.args.atom.now) ≡ symbols_of_array (array_in c.deref.result.now)
    ++ symbols_of (polynomial_in c.deref-in-Read.result.now) = search (rules, the_lemmas) in
    added (set_in c.args.mentioned.now) (set_in c.add_arr.new.mentioned) (set_in c.add_poly.new.mentioned) (symbols_of_array (array_in c.deref.result.now))
    (symbols_of (polynomial_in c.deref-in-Read.result.now)) (symbols_of_atom (atom_in c.args.atom.now)) whole c.add_arr.ensures c.add_poly.ensures

pub add_atom-returns-in-Div : goal.add_atom-returns-in-Div
add_atom-returns-in-Div t c =
    let whole : symbols_of_atom (atom_in c.args.atom.now) ≡ symbols_of (polynomial_in c.deref-in-Div.result.now)
    ++ symbols_of (polynomial_in c.deref-in-Div-2.result.now) = search (rules, the_lemmas) in
    added (set_in c.args.mentioned.now) (set_in c.add_poly-in-Div.new.mentioned) (set_in c.add_poly-in-Div-2.new.mentioned)
    (symbols_of (polynomial_in c.deref-in-Div.result.now)) (symbols_of (polynomial_in c.deref-in-Div-2.result.now))
    (symbols_of_atom (atom_in c.args.atom.now)) whole c.add_poly-in-Div.ensures c.add_poly-in-Div-2.ensures

pub add_mono-loop-atom-preserved : goal.add_mono-loop-atom-preserved
add_mono-loop-atom-preserved t c =
    let xs = c.deref-atom-items.result.now in
    let i = c.loop-atom.atom-index in
    rest_left (set_in c.loop-atom.mentioned) (set_in c.add_atom.new.mentioned) (symbols_of_atom (atom_in c.atom-item.result))
    (symbols_of_monomial (monomial_of (map atom_in (drop (i + 1) xs)))) (symbols_of_monomial (monomial_of (map atom_in (drop i xs))))
    (ap (λ l. symbols_of_monomial (monomial_of l)) (map_drop_next atom_in xs i c.atom-item.result c.loop-atom-test.true c.atom-item.is))
    c.add_atom.ensures c.loop-atom.invariant

pub add_poly-loop-mono-preserved : goal.add_poly-loop-mono-preserved
add_poly-loop-mono-preserved t c =
    let xs = c.deref-mono-items.result.now in
    let i = c.loop-mono.mono-index in
    rest_left (set_in c.loop-mono.mentioned) (set_in c.add_mono.new.mentioned) (symbols_of_monomial (monomial_in c.loop-mono-item.result.0))
    (symbols_of (polynomial_of (map term_in (drop (i + 1) xs)))) (symbols_of (polynomial_of (map term_in (drop i xs))))
    (ap (λ l. symbols_of (polynomial_of l)) (map_drop_next term_in xs i c.loop-mono-item.result c.loop-mono-test.true c.loop-mono-item.is))
    c.add_mono.ensures c.loop-mono.invariant

pub add_arr-loop-index-preserved : goal.add_arr-loop-index-preserved
add_arr-loop-index-preserved t c =
    let xs = c.deref-index-items.result.now in
    let i = c.loop-index.index-index in
    let x = c.loop-index-item.result in
    let left = symbols_of_writes (writes_of (map write_in (drop (i + 1) xs))) in
    let value = symbols_of (polynomial_in x.1) in
    rest_left (set_in c.add_poly.new.mentioned) (set_in c.add_poly-in-loop-index.new.mentioned) value left (value ++ left) refl
    c.add_poly-in-loop-index.ensures
    (rest_left (set_in c.loop-index.mentioned) (set_in c.add_poly.new.mentioned) (symbols_of (polynomial_in x.0)) (value ++ left)
    (symbols_of_writes (writes_of (map write_in (drop i xs))))
    (ap (λ l. symbols_of_writes (writes_of l)) (map_drop_next write_in xs i x c.loop-index-test.true c.loop-index-item.is)) c.add_poly.ensures
    c.loop-index.invariant)

pub add_mono-returns : goal.add_mono-returns
add_mono-returns t c =
    let old = set_in c.args.mentioned.now in
    sym (at_drop_all (λ ys. with_symbols (set_in c.loop-atom.mentioned) (symbols_of_monomial (monomial_of (map atom_in ys))))
    c.deref-atom-items.result.now c.loop-atom.atom-index c.loop-atom-test.false)
    ∙ c.loop-atom.invariant
    ∙ ap (λ ys. with_symbols old (symbols_of_monomial (monomial_of (map atom_in ys)))) c.deref-atom-items.ensures.value
    ∙ ap (λ m. with_symbols old (symbols_of_monomial m)) (sym (monomial_in-is c.args.mono.now))

pub add_poly-returns : goal.add_poly-returns
add_poly-returns t c =
    let old = set_in c.args.mentioned.now in
    sym (at_drop_all (λ ys. with_symbols (set_in c.loop-mono.mentioned) (symbols_of (polynomial_of (map term_in ys))))
    c.deref-mono-items.result.now c.loop-mono.mono-index c.loop-mono-test.false)
    ∙ c.loop-mono.invariant
    ∙ ap (λ ys. with_symbols old (symbols_of (polynomial_of (map term_in ys)))) c.deref-mono-items.ensures.value
    ∙ ap (λ p. with_symbols old (symbols_of p)) (sym (polynomial_in-is c.args.poly.now))

pub add_arr-returns : goal.add_arr-returns
add_arr-returns t c =
    let arr = out-ArrTree c.args.arr.now in
    let base = set_in c.add_base.new.mentioned in
    added (set_in c.args.mentioned.now) base (set_in c.loop-index.mentioned) (symbols_of_base arr.base)
    (symbols_of_writes (writes_of (map write_in arr.writes.items))) (symbols_of_array (array_in c.args.arr.now))
    (ap symbols_of_array (array_in-is c.args.arr.now))
    c.add_base.ensures
    (sym (at_drop_all (λ ys. with_symbols (set_in c.loop-index.mentioned) (symbols_of_writes (writes_of (map write_in ys))))
    c.deref-index-items.result.now c.loop-index.index-index c.loop-index-test.false)
    ∙ c.loop-index.invariant
    ∙ ap (λ ys. with_symbols base (symbols_of_writes (writes_of (map write_in ys)))) c.deref-index-items.ensures.value)
