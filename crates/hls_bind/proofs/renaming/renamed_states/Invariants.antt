use Rattle.std.proofs.Common.{◌≡◌, take}
use Rattle.std.specs.Prelude.{map}
use Rattle.fs_model.specs.View.{source_state_of}
use Rattle.hls_bind.specs.Bindings.{state_renamed}
use Rattle.hls_bind.specs.BindingEntries.{name_for}
use Rattle.hls_bind.proofs.renaming.renamed_states.Given as goal

abbrev pub invariant-loop-state : goal.invariant-loop-state
invariant-loop-state l = map source_state_of l.out.items ≡ map (state_renamed (name_for l.registers)) (map source_state_of (take l.state-index l.states))
