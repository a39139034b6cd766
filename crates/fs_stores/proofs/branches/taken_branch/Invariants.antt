use Rattle.std.proofs.Common.{◌≡◌, drop}
use Rattle.std.specs.Prelude.{map}
use Rattle.fs_model.specs.Touched.{AllInRange}
use Rattle.fs_model.specs.View.{branch_of}
use Rattle.fs_stores.specs.Values.{store_from}
use Rattle.fs_stores.specs.Reads.{touched_by_branches, taken_branch}
use Rattle.fs_stores.proofs.branches.taken_branch.Given as goal

abbrev pub invariant-loop-branch : goal.invariant-loop-branch
invariant-loop-branch l = record {
  there : AllInRange (touched_by_branches (map branch_of (drop l.branch-index l.branches)) (store_from l.values))
      → AllInRange (touched_by_branches (map branch_of l.branches) (store_from l.values));
  back : AllInRange (touched_by_branches (map branch_of l.branches) (store_from l.values))
      → AllInRange (touched_by_branches (map branch_of (drop l.branch-index l.branches)) (store_from l.values));
  first : taken_branch (map branch_of (drop l.branch-index l.branches)) (store_from l.values) ≡ taken_branch (map branch_of l.branches) (store_from l.values);
}
