use Rattle.std.proofs.Common.{◌≡◌, take}
use Rattle.std.specs.Prelude.{map}
use Rattle.fs_model.specs.View.{source_state_of}
use Rattle.fs_rules.specs.Rules.{declared_states}
use Rattle.fs_rules.specs.Places.{declared_of}
use Rattle.fs_rules.proofs.scope.declare_states.Given as goal

abbrev pub invariant-loop-state : goal.invariant-loop-state
invariant-loop-state l = map declared_of l.out.items ≡ declared_states (map source_state_of (take l.state-index l.states))
