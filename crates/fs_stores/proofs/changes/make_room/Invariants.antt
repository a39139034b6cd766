use Rattle.std.proofs.Common.{◌≡◌, take, length, true}
use Rattle.std.specs.Prelude.{map}
use Rattle.std.specs.List.{list_all}
use Rattle.fs_stores.specs.Values.{store_from, sort_of}
use Rattle.fs_stores.specs.Changes.{is_ready_change}
use Rattle.fs_stores.proofs.changes.make_room.Given as goal

abbrev pub invariant-loop-change : goal.invariant-loop-change
invariant-loop-change l = record {
  same : store_from l.values ≡ store_from l.initial.values;
  sorts : map sort_of l.values ≡ map sort_of l.initial.values;
  ready : list_all (is_ready_change (length l.changes) l.values) (take l.change-index l.changes) ≡ true;
}
