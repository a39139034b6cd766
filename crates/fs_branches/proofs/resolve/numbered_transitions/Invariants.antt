use Rattle.std.proofs.Common.{◌≡◌, take}
use Rattle.std.specs.Prelude.{map}
use Rattle.fs_model.specs.View.{source_transition_of}
use Rattle.fs_rules.specs.MachineOfParts.{names_of, transition_spelled}
use Rattle.fs_rules.specs.Places.{names_stated}
use Rattle.fs_branches.specs.NumberedParts.{resolved_transition}
use Rattle.fs_branches.proofs.resolve.numbered_transitions.Given as goal

abbrev pub invariant-loop-raw : goal.invariant-loop-raw
invariant-loop-raw l = map resolved_transition l.out.items ≡ map (transition_spelled (names_of l.scope.vars.items) (names_stated l.scope.states.now))
    (map source_transition_of (take l.raw-index l.lines))
