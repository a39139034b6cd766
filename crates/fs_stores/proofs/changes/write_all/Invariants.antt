use Rattle.std.proofs.Common.{◌≡◌, drop, length, true}
use Rattle.std.specs.Prelude.{map}
use Rattle.std.specs.List.{list_all}
use Rattle.fs_stores.specs.Values.{store_from, sort_of}
use Rattle.fs_stores.specs.Changes.{is_ready_change, changed_all}
use Rattle.fs_stores.proofs.changes.write_all.Given as goal

abbrev pub invariant-loop-change : goal.invariant-loop-change
invariant-loop-change l = record {
  changed : changed_all (store_from l.values) (drop l.change-index l.changes) ≡ changed_all (store_from l.initial.values) l.changes;
  sorts : map sort_of l.values ≡ map sort_of l.initial.values;
  ready : list_all (is_ready_change (length (drop l.change-index l.changes)) l.values) (drop l.change-index l.changes) ≡ true;
}
