use Rattle.std.proofs.Common.{◌&&◌, map, ap, sym, ◌∙◌, refl}
use Rattle.term_text.specs.View.{written_polynomial_in, written_list_in, list_base_in}
use Rattle.term_values.specs.Checks.{polynomial_passes, list_passes}
use Rattle.term_values.specs.ListParts.{items_pass}
use Rattle.term_values.proofs.Lists.{passes, stops, all_pass, items_all}
use Rattle.term_values.proofs.checks.list_passes.Goals as goal

pub loop-item-preserved : goal.loop-item-preserved
loop-item-preserved g c =
    let r = g.C.Check.test c.args.check.now in
    passes written_polynomial_in (polynomial_passes r) (items_pass r) (λ _ _. refl) c.deref-item-items.result.now c.loop-item.item-index c.item-item.result
    c.loop-item-test.true c.item-item.is
    (list_passes r (written_list_in c.args.list.now)) c.loop-item.invariant (sym c.polynomial_passes.ensures ∙ c.if-not-polynomial_passes.false)

pub returns-then-not-polynomial_passes : goal.returns-then-not-polynomial_passes
returns-then-not-polynomial_passes g c =
    let r = g.C.Check.test c.args.check.now in
    stops written_polynomial_in (polynomial_passes r) (items_pass r) (λ _ _. refl) c.deref-item-items.result.now c.loop-item.item-index c.item-item.result
    c.loop-item-test.true c.item-item.is
    (list_passes r (written_list_in c.args.list.now)) c.loop-item.invariant (sym c.polynomial_passes.ensures ∙ c.if-not-polynomial_passes.true)

pub returns : goal.returns
returns g c =
    let r = g.C.Check.test c.args.check.now in
    all_pass written_polynomial_in (items_pass r) c.deref-item-items.result.now c.loop-item.item-index
    (list_passes r (written_list_in c.args.list.now)) c.loop-item.invariant c.loop-item-test.false refl

pub returns-then-not-list_base_passes : goal.returns-then-not-list_base_passes
returns-then-not-list_base_passes g c =
    let r = g.C.Check.test c.args.check.now in
    let l = c.args.list.now in
    let items = map written_polynomial_in l.items.items in
    sym (items_all r (list_base_in l.base) items ∙ ap (λ b. b && items_pass r items) (sym c.list_base_passes.ensures ∙ c.if-not-list_base_passes.true))

pub loop-item-init : goal.loop-item-init
loop-item-init g c =
    let r = g.C.Check.test c.args.check.now in
    let l = c.args.list.now in
    let items = map written_polynomial_in l.items.items in
    items_all r (list_base_in l.base) items ∙ ap (λ b. b && items_pass r items) (sym c.list_base_passes.ensures ∙ c.if-not-list_base_passes.false)
    ∙ ap (λ ps. items_pass r (map written_polynomial_in ps)) (sym c.deref-item-items.ensures.value)
