use Rattle.std.proofs.Common.{◌≡◌, drop}
use Rattle.std.specs.Prelude.{map, length}
use Rattle.fs_variable_sets.specs.Sets.{has_variable}
use Rattle.hls_bind.specs.BindingEntries.{binding_entry}
use Rattle.hls_bind.specs.ConflictSearch.{lost_by}
use Rattle.hls_bind.proofs.conflicts.lost_by.Given as goal

abbrev pub invariant-loop-k : goal.invariant-loop-k
invariant-loop-k l = record {
  all : l.k-end ≡ length l.all.entries.now;
  left : lost_by (has_variable l.writes) (has_variable l.live) (map binding_entry l.all.entries.now) (map binding_entry (drop l.k l.all.entries.now))
      ≡ lost_by (has_variable l.writes) (has_variable l.live) (map binding_entry l.all.entries.now) (map binding_entry l.all.entries.now);
}
