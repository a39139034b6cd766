use Rattle.std.proofs.Common.{◌≡◌, drop}
use Rattle.std.specs.Prelude.{map}
use Rattle.fs_model.specs.View.{source_transition_of}
use Rattle.fs_rules.specs.Rules.{transitions_faults}
use Rattle.fs_rules.specs.FirstFault.{earliest}
use Rattle.fs_rules.specs.Places.{names_stated}
use Rattle.fs_rules.proofs.scope.Scope.check_transitions.Given as goal

abbrev pub invariant-loop-line : goal.invariant-loop-line
invariant-loop-line l =
    earliest l.faults.first (transitions_faults l.self.vars.items (names_stated l.self.states.now) (map source_transition_of (drop l.line-index l.lines)))
    ≡ earliest l.initial.faults.first (transitions_faults l.self.vars.items (names_stated l.self.states.now) (map source_transition_of l.lines))
