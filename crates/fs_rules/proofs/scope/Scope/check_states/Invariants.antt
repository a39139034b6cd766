use Rattle.std.proofs.Common.{◌≡◌, drop}
use Rattle.std.specs.Prelude.{map}
use Rattle.std.specs.List.{flat_map}
use Rattle.fs_model.specs.View.{source_state_of}
use Rattle.fs_rules.specs.Rules.{state_faults}
use Rattle.fs_rules.specs.FirstFault.{earliest}
use Rattle.fs_rules.specs.Places.{names_stated}
use Rattle.fs_rules.proofs.scope.Scope.check_states.Given as goal

abbrev pub invariant-loop-state : goal.invariant-loop-state
invariant-loop-state l =
    earliest l.faults.first (flat_map (state_faults l.self.vars.items (names_stated l.self.states.now)) (map source_state_of (drop l.state-index l.states)))
    ≡ earliest l.initial.faults.first (flat_map (state_faults l.self.vars.items (names_stated l.self.states.now)) (map source_state_of l.states))
