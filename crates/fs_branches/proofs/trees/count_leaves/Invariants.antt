use Rattle.std.proofs.Common.{◌≡◌, ◌-◌, drop, length}
use Rattle.std.specs.Prelude.{map}
use Rattle.fs_model.specs.Trees.{tree_of_transitions, count_leaves}
use Rattle.fs_branches.specs.NumberedParts.{resolved_transition}
use Rattle.fs_branches.specs.Forks.{capped_leaves}
use Rattle.fs_branches.proofs.trees.count_leaves.Given as goal

abbrev pub invariant-loop-k : goal.invariant-loop-k
invariant-loop-k l = l.count ≡ capped_leaves (count_leaves (tree_of_transitions (map resolved_transition (drop (length l.lines - l.k) l.lines))))
