use Rattle.std.proofs.Common.{◌≡◌, ℕ, ◌<◌, ◌++◌, List, length, map, take}
use Rattle.std.specs.List.{slice_index_or}
use Rattle.fs_model.specs.View.{branch_of}
use Rattle.hls_sched.specs.declared.arrivals.Arrivals.TheVariants as variants
use Rattle.hls_sched.specs.Arrivals.{arrivals_of, source_per_branch}
use Rattle.hls_sched.proofs.arrivals.arrive_all.Given as goal

abbrev pub invariant-loop-branch : goal.invariant-loop-branch
invariant-loop-branch l = record {
  count : length l.table.items ≡ length l.initial.table.items;
  known : (r : ℕ) (qs : List ℕ) → r < length l.initial.table.items → slice_index_or l.initial.table.items r variants.Never ≡ arrivals_of qs
      → slice_index_or l.table.items r variants.Never ≡ arrivals_of (qs ++ source_per_branch l.from.0 r (map branch_of (take l.branch-index l.branches)));
}
