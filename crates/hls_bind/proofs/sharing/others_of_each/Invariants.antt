use Rattle.std.proofs.Common.{◌≡◌, take}
use Rattle.std.specs.Prelude.{map}
use Rattle.fs_variable_sets.specs.Sets.{has_variable}
use Rattle.hls_bind.specs.BindingEntries.{binding_entry}
use Rattle.hls_bind.specs.Shared.{others_in}
use Rattle.hls_bind.proofs.sharing.others_of_each.Given as goal

abbrev pub invariant-loop-one : goal.invariant-loop-one
invariant-loop-one l = map has_variable l.out.items ≡ map (others_in (map binding_entry l.all)) (map binding_entry (take l.one-index l.all))
