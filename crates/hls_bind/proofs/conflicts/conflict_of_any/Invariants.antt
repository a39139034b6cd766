use Rattle.std.proofs.Common.{◌≡◌, ◌-◌, length}
use Rattle.std.specs.Prelude.{map}
use Rattle.hls_bind.specs.BindingEntries.{binding_entry}
use Rattle.hls_bind.specs.ConflictSearch.{first_from, conflict_in, first_conflict}
use Rattle.hls_bind.proofs.conflicts.conflict_of_any.Given as goal

abbrev pub invariant-loop-state : goal.invariant-loop-state
invariant-loop-state l = record {
  all : l.state-end ≡ length l.m.states;
  left : first_from (conflict_in (map binding_entry l.all.entries.now) l.m l.live) l.state (length l.m.states - l.state)
      ≡ first_conflict (map binding_entry l.all.entries.now) l.m l.live;
}
