use Rattle.std.proofs.Common.{◌≡◌, ◌-◌}
use Rattle.std.specs.Prelude.{map}
use Rattle.fs_model.specs.SoundMachines.{branch_count}
use Rattle.hls_bind.specs.BindingEntries.{binding_entry}
use Rattle.hls_bind.specs.ConflictSearch.{first_from, conflict_at, conflict_in}
use Rattle.hls_bind.proofs.conflicts.conflict_in.Given as goal

abbrev pub invariant-loop-number : goal.invariant-loop-number
invariant-loop-number l = record {
  all : l.count ≡ branch_count l.m l.state.0;
  left : first_from (conflict_at (map binding_entry l.all.entries.now) l.m l.live l.state.0) l.number (branch_count l.m l.state.0 - l.number)
      ≡ conflict_in (map binding_entry l.all.entries.now) l.m l.live l.state.0;
}
