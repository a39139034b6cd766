use Rattle.std.proofs.Common.{◌∙◌, ◌++◌, ap, map}
use Rattle.fs_model.specs.declared.parts.StateId.{StateId}
use Rattle.fs_model.specs.Source.{SourceState}
use Rattle.fs_model.specs.View.{named_assignment, source_of}
use Rattle.fs_model.proofs.Lists.{same_there}
use Rattle.hls_block_filling.specs.SourceRows.{first_assignments, named_item}
use Rattle.hls_sched.proofs.Copied.{flat_more, state_is}
use Rattle.hls_sched.proofs.parts.joined_items.Goals as goal

pub loop-state-preserved : goal.loop-state-preserved
loop-state-preserved c =
    let items = c.args.items.now in
    let i = c.loop-state.state-index in
    let low = c.loop-state-test.true in
    let is = state_is c.args.parts.now.states.items _ c.index.result.now (c.requires i _ low) c.index.ensures in
    flat_more (named_item (source_of c.args.parts.now)) (λ (s : StateId). s.0) items i _ _ _ low (same_there items i _ _ low)
    (c.in_ok-add_item.ensures ∙ ap (λ (s : SourceState). map named_assignment c.loop-state.out.items ++ first_assignments s.transitions) is)
    c.loop-state.invariant
