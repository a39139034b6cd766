-- Decision trees as the code has them, and how many leaves a guard gives.
use Rattle.std.specs.Prelude.{ℕ, ◌+◌, min, Option, Some, None}
use Rattle.fs_model.specs.Expressions.{Guard, Test, Not, And, Or}
use Rattle.fs_model.specs.Trees.{Tree, Empty, Leaf, Node}
use Rattle.fs_branches.specs.declared.trees.DecisionTree.{DecisionTree}
use Rattle.fs_branches.specs.declared.trees.DecisionTree.TheVariants as trees
use Rattle.fs_branches.specs.NumberedParts.{resolved_transition}

-- the tree that a value of the code stands for
abbrev pub tree_of : DecisionTree → Tree
tree_of trees.Fail = Empty
tree_of (trees.Leaf l) = Leaf (resolved_transition l.now).assignments (resolved_transition l.now).target
tree_of (trees.Test' l p on_yes q on_no) = Node l (tree_of on_yes) (tree_of on_no)

-- the leaves of the tree of a guard, from those of its two subtrees
abbrev pub leaves_by : Guard ℕ → (on_yes on_no : ℕ) → ℕ
leaves_by (Test l) on_yes on_no = on_yes + on_no
leaves_by (Not c) on_yes on_no = leaves_by c on_no on_yes
leaves_by (And c d) on_yes on_no = leaves_by c (leaves_by d on_yes on_no) on_no
leaves_by (Or c d) on_yes on_no = leaves_by c on_yes (leaves_by d on_yes on_no)

-- the same where there may be no guard
abbrev pub leaves_by_condition : Option (Guard ℕ) → (on_yes on_no : ℕ) → ℕ
leaves_by_condition None on_yes on_no = on_yes
leaves_by_condition (Some c) on_yes on_no = leaves_by c on_yes on_no

-- a number of leaves, or 65 where there are more
abbrev pub capped_leaves : ℕ → ℕ
capped_leaves n = min n 65
