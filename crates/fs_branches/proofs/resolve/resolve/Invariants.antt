use Rattle.std.proofs.Common.{◌≡◌, take}
use Rattle.std.specs.Prelude.{map}
use Rattle.fs_model.specs.View.{source_state_of}
use Rattle.fs_rules.specs.MachineOfParts.{names_of}
use Rattle.fs_rules.specs.Places.{names_stated}
use Rattle.fs_branches.specs.NumberedParts.{state_with_line, spelled_state_with_line}
use Rattle.fs_branches.proofs.resolve.resolve.Given as goal

abbrev pub invariant-loop-raw : goal.invariant-loop-raw
invariant-loop-raw l = map state_with_line l.out.items ≡ map (spelled_state_with_line (names_of l.scope.vars.items) (names_stated l.scope.states.now))
    (map source_state_of (take l.raw-index l.states))
