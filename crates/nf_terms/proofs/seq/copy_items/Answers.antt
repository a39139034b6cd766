use Rattle.std.proofs.Common.{◌+◌, [], ◌∷◌, ◌++◌, drop, append_assoc, ap, sym, ◌∙◌}
use Rattle.fs_model.proofs.Lists.{drop_next}
use Rattle.nf_terms.proofs.seq.copy_items.Goals as goal

pub loop-item-preserved : goal.loop-item-preserved
loop-item-preserved c =
    let xs = c.args.items.now in
    let i = c.loop-item.item-index in
    let x = c.item-item.result in
    let old = c.loop-item.out.items in
    ap (λ l. l ++ drop (i + 1) xs) (c.in_ok-push.ensures.items ∙ ap (λ y. old ++ y ∷ []) c.in_ok-try_clone.ensures)
    ∙ append_assoc old (x ∷ []) (drop (i + 1) xs)
    ∙ ap (λ l. old ++ l) (sym (drop_next xs i x c.loop-item-test.true c.item-item.is))
    ∙ c.loop-item.invariant
