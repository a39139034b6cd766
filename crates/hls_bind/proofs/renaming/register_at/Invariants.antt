use Rattle.std.proofs.Common.{◌≡◌, drop}
use Rattle.std.specs.Prelude.{map}
use Rattle.hls_bind.specs.Bindings.{register}
use Rattle.hls_bind.specs.BindingEntries.{binding_entry}
use Rattle.hls_bind.proofs.renaming.register_at.Given as goal

abbrev pub invariant-loop-entry : goal.invariant-loop-entry
invariant-loop-entry l = register (map binding_entry (drop l.entry-index l.entries)) l.place ≡ register (map binding_entry l.entries) l.place
