use Rattle.std.proofs.Common.{◌≡◌, take}
use Rattle.std.specs.Prelude.{map}
use Rattle.fs_model.specs.View.{source_transition_of}
use Rattle.hls_bind.specs.Bindings.{transition_renamed}
use Rattle.hls_bind.specs.BindingEntries.{name_for}
use Rattle.hls_bind.proofs.renaming.renamed_transitions.Given as goal

abbrev pub invariant-loop-line : goal.invariant-loop-line
invariant-loop-line l = map source_transition_of l.out.items ≡ map (transition_renamed (name_for l.registers))
    (map source_transition_of (take l.line-index l.lines))
