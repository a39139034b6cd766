use Rattle.std.proofs.Common.{◌+◌, ◌++◌, drop, ap, sym, ◌∙◌, append_assoc}
use Rattle.std.proofs.lemmas.List.{append-nil, at_drop_all}
use Rattle.fs_model.proofs.Lists.{drop_next}
use Rattle.nf_terms.specs.Symbols.{symbols_of, symbols_of_items}
use Rattle.nf_symbols.proofs.gathering.push_items.Goals as goal

pub loop-item-preserved : goal.loop-item-preserved
loop-item-preserved c =
    let xs = c.args.items.now in
    let i = c.loop-item.item-index in
    let x = c.item-item.result in
    let old = c.loop-item.out.items in
    let later = symbols_of_items (drop (i + 1) xs) in
    ap (λ l. l ++ later) (c.in_ok-push_poly.ensures ∙ ap (λ p. old ++ symbols_of p) c.tree.ensures.same)
    ∙ append_assoc old (symbols_of x) later
    ∙ ap (λ l. old ++ symbols_of_items l) (sym (drop_next xs i x c.loop-item-test.true c.item-item.is))
    ∙ c.loop-item.invariant

pub returns : goal.returns
returns c =
    let old = c.loop-item.out.items in
    sym (at_drop_all (λ l. old ++ symbols_of_items l) c.args.items.now c.loop-item.item-index c.loop-item-test.false ∙ append-nil old)
    ∙ c.loop-item.invariant
