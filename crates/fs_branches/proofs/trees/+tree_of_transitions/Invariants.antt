use Rattle.std.proofs.Common.{length}
use Rattle.fs_branches.proofs.trees.+tree_of_transitions.Given as goal

abbrev pub decreases-tree_of_transitions : goal.decreases-tree_of_transitions
decreases-tree_of_transitions l = length l.lines.now
