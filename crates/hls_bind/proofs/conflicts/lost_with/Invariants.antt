use Rattle.std.proofs.Common.{◌≡◌, drop}
use Rattle.std.specs.Prelude.{map}
use Rattle.fs_variable_sets.specs.Sets.{has_variable}
use Rattle.hls_bind.specs.BindingEntries.{binding_entry}
use Rattle.hls_bind.specs.ConflictSearch.{lost_with}
use Rattle.hls_bind.proofs.conflicts.lost_with.Given as goal

abbrev pub invariant-loop-other : goal.invariant-loop-other
invariant-loop-other l = lost_with (has_variable l.writes) (has_variable l.live) (binding_entry l.one) (map binding_entry (drop l.other-index l.all))
    ≡ lost_with (has_variable l.writes) (has_variable l.live) (binding_entry l.one) (map binding_entry l.all)
