use Rattle.std.proofs.Common.{◌∙◌, [], ap, map}
use Rattle.fs_model.specs.declared.parts.StateId.{StateId}
use Rattle.hls_block_filling.specs.BasicBlocks.{item_of}
use Rattle.hls_block_filling.specs.EffectSets.{sets_of, sets_from, none_changed}
use Rattle.fs_model.proofs.Lists.{map_grown, same_there, of_whole}
use Rattle.hls_sched.proofs.Copied.{map_behind_start_grows}
use Rattle.hls_sched.proofs.plans.all_effects.Goals as goal

pub loop-state-preserved : goal.loop-state-preserved
loop-state-preserved c =
    let states = c.args.states.now in
    map_behind_start_grows (λ (q : StateId). sets_from (item_of c.args.m.now q.0) none_changed) [] states c.loop-state.state-index _ _ _ c.loop-state-test.true
    (same_there states c.loop-state.state-index _ _ c.loop-state-test.true)
    (map_grown sets_of _ _ c.of.result _ c.in_ok-push.ensures.items (c.of.ensures ∙ ap (λ xs. sets_from xs none_changed) c.item.ensures))
    c.loop-state.invariant

pub returns : goal.returns
returns c = of_whole (map (λ (q : StateId). sets_from (item_of c.args.m.now q.0) none_changed)) c.args.states.now c.loop-state.state-index _
    c.loop-state-test.false c.loop-state.invariant
