use Rattle.std.proofs.Common.{◌≡◌, take}
use Rattle.std.specs.Prelude.{map}
use Rattle.fs_model.specs.SoundMachines.{numbers_in_states}
use Rattle.fs_branches.specs.NumberedParts.{resolved_state}
use Rattle.fs_ast.proofs.constants.constants_of.Given as goal

abbrev pub invariant-loop-state : goal.invariant-loop-state
invariant-loop-state l = l.out.items ≡ numbers_in_states (map resolved_state (take l.state-index l.states))
