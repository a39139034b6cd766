use Rattle.std.proofs.Common.{◌∙◌, [], ap, map}
use Rattle.fs_model.specs.declared.parts.StateId.{StateId}
use Rattle.hls_block_filling.specs.BasicBlocks.{item_of}
use Rattle.hls_block_filling.specs.ItemUnits.{used_by}
use Rattle.hls_block_filling.specs.Profiles.{units_of_uses, capped_count}
use Rattle.fs_model.proofs.Lists.{map_grown, same_there, of_whole}
use Rattle.hls_sched.proofs.Copied.{map_behind_start_grows}
use Rattle.hls_sched.proofs.plans.all_uses.Goals as goal

pub loop-state-preserved : goal.loop-state-preserved
loop-state-preserved c = λ kind.
    let states = c.args.states.now in
    map_behind_start_grows (λ (q : StateId). capped_count (used_by (item_of c.args.m.now q.0) kind)) [] states c.loop-state.state-index _ _ _
    c.loop-state-test.true
    (same_there states c.loop-state.state-index _ _ c.loop-state-test.true)
    (map_grown (λ u. units_of_uses u kind) _ _ c.uses_of.result _ c.in_ok-push.ensures.items
    (c.uses_of.ensures kind ∙ ap (λ xs. capped_count (used_by xs kind)) c.item.ensures))
    (c.loop-state.invariant kind)

pub returns : goal.returns
returns c = λ kind. of_whole (map (λ (q : StateId). capped_count (used_by (item_of c.args.m.now q.0) kind))) c.args.states.now c.loop-state.state-index _
    c.loop-state-test.false (c.loop-state.invariant kind)
