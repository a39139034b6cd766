use Rattle.fs_model.specs.View.{source_transition_of}
use Rattle.fs_model.proofs.Filled.{map_of_map_grows}
use Rattle.fs_rules.specs.MachineOfParts.{names_of, transition_spelled}
use Rattle.fs_rules.specs.Places.{names_stated}
use Rattle.fs_branches.specs.NumberedParts.{resolved_transition}
use Rattle.fs_branches.proofs.resolve.numbered_transitions.Goals as goal

pub loop-raw-preserved : goal.loop-raw-preserved
loop-raw-preserved c =
    map_of_map_grows resolved_transition (transition_spelled (names_of c.args.scope.now.vars.items) (names_stated c.args.scope.now.states.now))
    source_transition_of
    c.loop-raw.out.items _ c.args.lines.now c.loop-raw.raw-index c.raw-item.result c.in_ok-numbered_transition.field-0 c.loop-raw-test.true c.raw-item.is
    c.in_ok-push_value.ensures c.in_ok-numbered_transition.ensures c.loop-raw.invariant
