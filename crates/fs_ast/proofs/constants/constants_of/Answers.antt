use Rattle.std.proofs.Common.{[], ◌∙◌, ap, ◌++◌}
use Rattle.std.specs.Prelude.{map}
use Rattle.fs_model.specs.SoundMachines.{numbers_in_transitions, numbers_in_states}
use Rattle.fs_branches.specs.NumberedParts.{resolved_state, resolved_transition}
use Rattle.fs_ast.proofs.Numbers.{states_push, put_numbers}
use Rattle.fs_ast.proofs.constants.constants_of.Goals as goal

pub loop-state-preserved : goal.loop-state-preserved
loop-state-preserved c =
    put_numbers numbers_in_states (λ s. numbers_in_transitions s.transitions) states_push resolved_state c.args.states.now c.loop-state.state-index
    c.state-item.result c.loop-state-test.true c.state-item.is [] _ _
    (c.in_ok-add_transitions.ensures ∙ ap (λ ls. c.loop-state.out.items ++ numbers_in_transitions (map resolved_transition ls)) c.as_slice.ensures.value)
    c.loop-state.invariant
