use Rattle.fs_model.specs.View.{source_state_of}
use Rattle.fs_model.proofs.Filled.{map_of_map_grows}
use Rattle.fs_rules.specs.MachineOfParts.{names_of}
use Rattle.fs_rules.specs.Places.{names_stated}
use Rattle.fs_branches.specs.NumberedParts.{state_with_line, spelled_state_with_line}
use Rattle.fs_branches.proofs.resolve.resolve.Goals as goal

pub loop-raw-preserved : goal.loop-raw-preserved
loop-raw-preserved c =
    map_of_map_grows state_with_line (spelled_state_with_line (names_of c.args.scope.now.vars.items) (names_stated c.args.scope.now.states.now)) source_state_of
    c.loop-raw.out.items _ c.args.states.now c.loop-raw.raw-index c.raw-item.result c.in_ok-numbered_state.field-0 c.loop-raw-test.true c.raw-item.is
    c.in_ok-push_value.ensures c.in_ok-numbered_state.ensures c.loop-raw.invariant
