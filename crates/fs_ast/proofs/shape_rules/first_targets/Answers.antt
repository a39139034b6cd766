use Rattle.std.proofs.Common.{[], ap, ◌∙◌, map}
use Rattle.fs_model.specs.SoundMachines.{first_transition_target}
use Rattle.fs_rules.proofs.Turns.{put_done}
use Rattle.fs_branches.specs.NumberedParts.{resolved_state, resolved_transition}
use Rattle.fs_ast.proofs.shape_rules.first_targets.Goals as goal

pub loop-state-preserved : goal.loop-state-preserved
loop-state-preserved c =
    put_done (λ s. first_transition_target (resolved_state s).transitions) c.args.states.now c.loop-state.state-index c.state-item.result c.loop-state-test.true
    c.state-item.is [] _ _ _
    (c.first_transition_target.ensures ∙ ap (λ ls. first_transition_target (map resolved_transition ls)) c.as_slice.ensures.value)
    c.in_ok-push_value.ensures c.loop-state.invariant
