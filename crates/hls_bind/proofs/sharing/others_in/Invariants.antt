use Rattle.std.proofs.Common.{◌≡◌, drop}
use Rattle.std.specs.Prelude.{map}
use Rattle.fs_variable_sets.specs.Sets.{has_variable}
use Rattle.hls_bind.specs.BindingEntries.{binding_entry}
use Rattle.hls_bind.specs.Shared.{others_from, others_in}
use Rattle.hls_bind.proofs.sharing.others_in.Given as goal

abbrev pub invariant-loop-other : goal.invariant-loop-other
invariant-loop-other l = others_from (binding_entry l.one) (map binding_entry (drop l.other-index l.all)) (has_variable l.set)
    ≡ others_in (map binding_entry l.all) (binding_entry l.one)
