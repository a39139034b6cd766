use Rattle.std.proofs.Common.{◌≡◌, take}
use Rattle.std.specs.Prelude.{map}
use Rattle.fs_model.specs.SoundMachines.{first_transition_target}
use Rattle.fs_branches.specs.NumberedParts.{resolved_state}
use Rattle.fs_ast.proofs.shape_rules.first_targets.Given as goal

abbrev pub invariant-loop-state : goal.invariant-loop-state
invariant-loop-state l = l.next.items ≡ map (λ s. first_transition_target (resolved_state s).transitions) (take l.state-index l.states)
