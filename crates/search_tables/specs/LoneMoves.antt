-- Moves of one machine alone, as a graph.
use Rattle.std.specs.Prelude.{◌≡◌, ℕ, Bool, false, cond, List, [], ◌∷◌, ◌++◌, Some, slice_get}
use Rattle.std.specs.List.{AllByRecursion}
use Rattle.fs_cut.specs.Paths.{Point}
use Rattle.cert_bisimulation.specs.declared.mode.Mode.{Mode}
use Rattle.cert_bisimulation.specs.declared.mode.Mode.TheVariants.{Left, Right}
use Rattle.fs_model.specs.declared.sides.Side.{Side}
use Rattle.fs_model.specs.declared.sides.Side.TheVariants as side
use Rattle.nf_terms.specs.Computed.{Computed, Done, Wide, Large}
use Rattle.nf_rel.specs.Literals.{is_refuted}
use Rattle.propagate.specs.Execution.{Post, arrive, end_of}
use Rattle.cert_model.specs.Facts.{vector_of}
use Rattle.propagate.specs.Modes.{Traced, Found, WideAt, LargeAt}
use Rattle.cert_model.specs.Obligations.{same_alone}
use Rattle.search_tables.specs.Graphs.{IsCycle, BeginsLeast}
use Rattle.search_tables.specs.SearchTables.{MachinePair, SearchNode, Table, Target, Unknown, Known, node_target, PathPair}
use Rattle.search_tables.specs.Next.{mode_at, paths_in}

-- whether the same machine moves alone in a mode and in one that is found
abbrev pub moves_alone : Mode → Traced Mode → Bool
moves_alone x (Found y) = same_alone x y
moves_alone x (WideAt d k left right) = false
moves_alone x (LargeAt d k units depth) = false

-- the number of a target from which the same machine moves alone, as a list
abbrev pub if_alone : MachinePair → Mode → Target → List ℕ
if_alone m x Unknown = []
if_alone m x (Known k n) = cond (moves_alone x (mode_at m n)) (k ∷ []) []

abbrev pub lone_target : MachinePair → Table → Mode → Point → Point → Computed Post → List ℕ
lone_target m T x P Q (Done post) = cond (is_refuted post.conditions) [] (if_alone m x (node_target T P Q))
lone_target m T x P Q (Wide left right) = []
lone_target m T x P Q (Large units depth) = []

-- the nodes to which a node moves in its mode and from which the same machine moves alone
abbrev pub lone_targets : MachinePair → Table → SearchNode → Mode → List PathPair → List ℕ
lone_targets m T n x [] = []
lone_targets m T n x (y ∷ ys) =
    lone_target m T x (end_of n.left y.left) (end_of n.right y.right)
    (arrive m.left m.right n.fact.literals (vector_of n.fact.positions) y.left y.right) ++ lone_targets m T n x ys

abbrev pub lone_in : MachinePair → Table → SearchNode → Traced Mode → List ℕ
lone_in m T n (Found x) = lone_targets m T n x (paths_in m n x)
lone_in m T n (WideAt d k left right) = []
lone_in m T n (LargeAt d k units depth) = []

abbrev pub lone_from : MachinePair → Table → List SearchNode → List (List ℕ)
lone_from m T [] = []
lone_from m T (n ∷ ns) = lone_in m T n (mode_at m n) ∷ lone_from m T ns

-- for each node where the moves lead by which one machine moves alone, there and at the target
abbrev pub lone_moves : MachinePair → Table → List (List ℕ)
lone_moves m T = lone_from m T T

-- the mode in which a side moves alone
abbrev pub lone_mode : Side → Mode
lone_mode side.Left = Left
lone_mode side.Right = Right

-- a node at which a side moves alone
pub record MovesAlone (m : MachinePair) (T : Table) (d : Side) (k : ℕ) : Type 0 where
  pub node : SearchNode
  pub is_in : slice_get T k ≡ Some node
  pub mode : mode_at m node ≡ Found (lone_mode d)

-- nodes that follow one another by moves that are not refuted and in which this side alone moves, the last leading to the first,
-- which is the least node that lies on any cycle in which a machine moves alone
pub record Spins (m : MachinePair) (T : Table) (d : Side) (cycle : List ℕ) : Type 0 where
  pub follow : IsCycle (lone_moves m T) cycle
  pub least : BeginsLeast (lone_moves m T) cycle
  pub alone : AllByRecursion (MovesAlone m T d) cycle
