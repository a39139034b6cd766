use Rattle.std.proofs.Common.{◌<◌, ◌∙◌, List, sym, subst, length}
use Rattle.std.specs.List.{All}
use Rattle.fs_model.specs.declared.parts.StateId.{StateId}
use Rattle.hls_block_filling.specs.BasicBlocks.{items_at}
use Rattle.hls_block_filling.specs.ItemUnits.{units_in}
use Rattle.hls_sched.proofs.Gathered.{are_counted, count_items, plan_for}
use Rattle.hls_sched.proofs.plans.plan_block.Goals as goal

pub all_effects-requires : goal.all_effects-requires
all_effects-requires c = subst (λ (qs : List StateId). All (λ q. q.0 < length c.args.m.now.states) qs) (sym c.deref.ensures.value) c.requires.block.inside

pub all_uses-requires : goal.all_uses-requires
all_uses-requires c = subst (λ (qs : List StateId). All (λ q. q.0 < length c.args.m.now.states) qs) (sym c.deref-2.ensures.value) c.requires.block.inside

pub make_plan-requires-clause-same : goal.make_plan-requires-clause-same
make_plan-requires-clause-same c =
    let counted =
    are_counted c.args.m.now c.args.first.0 c.args.block.now.states.items c.deref.result.now c.deref-2.result.now c.deref-3.result.now
    c.in_ok-effects.effects.items c.deref-4.result.now c.in_ok-uses.uses.items
    c.requires.block.states c.deref.ensures.value c.deref-2.ensures.value c.deref-3.ensures.value c.deref-4.ensures.value c.in_ok-effects.ensures
    c.in_ok-uses.ensures in
    counted.same ∙ sym counted.count

pub returns-clause-rows : goal.returns-clause-rows
returns-clause-rows c =
    let counted =
    are_counted c.args.m.now c.args.first.0 c.args.block.now.states.items c.deref.result.now c.deref-2.result.now c.deref-3.result.now
    c.in_ok-effects.effects.items c.deref-4.result.now c.in_ok-uses.uses.items
    c.requires.block.states c.deref.ensures.value c.deref-2.ensures.value c.deref-3.ensures.value c.deref-4.ensures.value c.in_ok-effects.ensures
    c.in_ok-uses.ensures in
    let are = c.items_within_the_units_are_counted.ensures c.args.m.now
    (units_in c.args.units.now) c.args.first.0 c.deref-3.result.now c.deref-4.result.now c.vars-vars.ensures.sound c.requires.within c.see_counts.ensures
    c.requires.block.within c.requires.block.starts counted in
    c.in_ok-make_plan.ensures.rows (items_at c.args.m.now c.args.first.0) are

pub returns-clause-chain : goal.returns-clause-chain
returns-clause-chain c =
    let counted =
    are_counted c.args.m.now c.args.first.0 c.args.block.now.states.items c.deref.result.now c.deref-2.result.now c.deref-3.result.now
    c.in_ok-effects.effects.items c.deref-4.result.now c.in_ok-uses.uses.items
    c.requires.block.states c.deref.ensures.value c.deref-2.ensures.value c.deref-3.ensures.value c.deref-4.ensures.value c.in_ok-effects.ensures
    c.in_ok-uses.ensures in
    let are = c.items_within_the_units_are_counted.ensures c.args.m.now
    (units_in c.args.units.now) c.args.first.0 c.deref-3.result.now c.deref-4.result.now c.vars-vars.ensures.sound c.requires.within c.see_counts.ensures
    c.requires.block.within c.requires.block.starts counted in
    c.in_ok-make_plan.ensures.chain (items_at c.args.m.now c.args.first.0) are

pub returns-clause-plan : goal.returns-clause-plan
returns-clause-plan c =
    let counted =
    are_counted c.args.m.now c.args.first.0 c.args.block.now.states.items c.deref.result.now c.deref-2.result.now c.deref-3.result.now
    c.in_ok-effects.effects.items c.deref-4.result.now c.in_ok-uses.uses.items
    c.requires.block.states c.deref.ensures.value c.deref-2.ensures.value c.deref-3.ensures.value c.deref-4.ensures.value c.in_ok-effects.ensures
    c.in_ok-uses.ensures in
    let are = c.items_within_the_units_are_counted.ensures c.args.m.now
    (units_in c.args.units.now) c.args.first.0 c.deref-3.result.now c.deref-4.result.now c.vars-vars.ensures.sound c.requires.within c.see_counts.ensures
    c.requires.block.within c.requires.block.starts counted in
    let count = count_items c.args.m.now c.args.first.0 c.args.block.now.states.items c.requires.block.states in
    plan_for c.args.m.now (units_in c.args.units.now) c.args.first.0
    (length c.args.block.now.states.items) c.in_ok-make_plan.field-0 c.vars-vars.ensures.sound c.requires.within c.requires.block.within c.requires.block.starts
    (c.in_ok-make_plan.ensures.rows (items_at c.args.m.now c.args.first.0) are) (c.in_ok-make_plan.ensures.count ∙ counted.count ∙ count) count
