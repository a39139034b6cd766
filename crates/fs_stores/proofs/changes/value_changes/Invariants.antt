use Rattle.std.proofs.Common.{◌≡◌, take, drop}
use Rattle.std.specs.Prelude.{map}
use Rattle.fs_model.specs.View.{assignment_of}
use Rattle.fs_stores.specs.Values.{store_from}
use Rattle.fs_stores.specs.Changes.{change_by, AssignmentsFit}
use Rattle.fs_stores.proofs.changes.value_changes.Given as goal

abbrev pub invariant-loop-assign : goal.invariant-loop-assign
invariant-loop-assign l = record {
  done : l.changes.items ≡ map (change_by (store_from l.values)) (map assignment_of (take l.assign-index l.assigns));
  there : AssignmentsFit (store_from l.values) (map assignment_of (drop l.assign-index l.assigns))
      → AssignmentsFit (store_from l.values) (map assignment_of l.assigns);
  back : AssignmentsFit (store_from l.values) (map assignment_of l.assigns)
      → AssignmentsFit (store_from l.values) (map assignment_of (drop l.assign-index l.assigns));
}
