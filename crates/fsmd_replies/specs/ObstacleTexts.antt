-- The lines that name obstacles.
use Rattle.std.specs.Prelude.{ℕ, ◌-◌, List, [], ◌++◌, length, map, Option, Some, None, option_map, unwrap_or, slice_get, codes}
use Rattle.fs_model.specs.Machines.{Fsmd}
use Rattle.fs_cut.specs.Paths.{Point}
use Rattle.fs_cut.specs.Covers.{paths_from, cover_of}
use Rattle.fs_model.specs.declared.sides.Side.{Side}
use Rattle.fs_model.specs.declared.sides.Side.TheVariants as side
use Rattle.fs_cut.specs.PathTexts.{point_text, named_path}
use Rattle.search_tables.specs.declared.moves.Move.{Move}
use Rattle.search_tables.specs.declared.outcome.Budget.{Budget}
use Rattle.search_tables.specs.declared.outcome.Budget.TheVariants as budget
use Rattle.search_tables.specs.declared.outcome.Outcome.{Outcome}
use Rattle.search_tables.specs.declared.outcome.Outcome.TheVariants as outcomes
use Rattle.search_tables.specs.SearchTables.{MachinePair}
use Rattle.search_tables.specs.View.{Points, points_in}
use Rattle.search_tables.specs.Obstacles.{Obstacle, Stuck, Spin, Wide, Large, Exhausted}

-- the text of what is looked up; nothing where it is not there
abbrev pub text_of_lookup : {T : Type 0} → (T → List ℕ) → Option T → List ℕ
text_of_lookup text x = unwrap_or (option_map text x) []

-- the text of the left machine and that of the right one
abbrev pub both_sides : (left right : List ℕ) → List ℕ
both_sides left right = left ++ (codes " | " ++ right)

-- the path of a branch from a point
abbrev pub branch_text : Fsmd → Point → ℕ → List ℕ
branch_text m P branch = text_of_lookup (named_path m) (slice_get (paths_from (cover_of m) P) branch)

-- the path of a side that moves by a branch from a point
abbrev pub side_text : Fsmd → Point → Option ℕ → List ℕ
side_text m P None = codes "-"
side_text m P (Some branch) = branch_text m P branch

-- the paths of a move from a node of a table whose nodes have these points
abbrev pub move_text : MachinePair → List Points → Move → List ℕ
move_text m points x = text_of_lookup (λ n. both_sides (side_text m.left n.left x.left) (side_text m.right n.right x.right))
    (slice_get points x.node)

-- the paths of the last move
abbrev pub last_move_text : MachinePair → List Points → List Move → List ℕ
last_move_text m points moves = text_of_lookup (move_text m points) (slice_get moves (length moves - 1))

-- the points of a node
abbrev pub node_points_text : MachinePair → List Points → ℕ → List ℕ
node_points_text m points k = text_of_lookup (λ n. both_sides (point_text m.left n.left) (point_text m.right n.right))
    (slice_get points k)

-- the points of the first of these nodes
abbrev pub first_node_text : MachinePair → List Points → List ℕ → List ℕ
first_node_text m points nodes = text_of_lookup (node_points_text m points) (slice_get nodes 0)

-- the name of a left output
abbrev pub output_text : Fsmd → ℕ → List ℕ
output_text a output = codes "output " ++ text_of_lookup (λ v. v.name) (slice_get a.variables output)

abbrev pub cycle_text : Side → List ℕ
cycle_text side.Left = codes "left alone in a cycle"
cycle_text side.Right = codes "right alone in a cycle"

-- the line of what is met at a place
abbrev pub undecided_at : (what place : List ℕ) → List ℕ
undecided_at what place = codes "undecided: " ++ (what ++ (codes " at " ++ (place ++ codes "\n")))

-- the line of a budget
abbrev pub undecided_over : Budget → List ℕ
undecided_over budget.Nodes = codes "undecided: more than 4096 nodes\n"
undecided_over budget.Units = codes "undecided: more than 4000000 units\n"

-- the line of an obstacle of a table that these moves make and whose nodes have these points
abbrev pub obstacle_text : MachinePair → List Move → List Points → Obstacle → List ℕ
obstacle_text m moves points (Stuck node output) = undecided_at (output_text m.left output) (last_move_text m points moves)
obstacle_text m moves points (Spin d cycle) = undecided_at (cycle_text d) (first_node_text m points cycle)
obstacle_text m moves points (Wide at) = undecided_at (codes "coefficient past 128 bits") (move_text m points at)
obstacle_text m moves points (Large at) = undecided_at (codes "term too large") (move_text m points at)
obstacle_text m moves points (Exhausted at what) = undecided_over what

-- the line of the obstacle at which a search stops; a search that closes has none
abbrev pub outcome_text : MachinePair → Outcome → List ℕ
outcome_text m (outcomes.Closed cert) = []
outcome_text m (outcomes.Stuck moves points node output) =
    obstacle_text m moves.items (map points_in points.items) (Stuck node output)
outcome_text m (outcomes.Spin moves points side cycle) =
    obstacle_text m moves.items (map points_in points.items) (Spin side cycle.items)
outcome_text m (outcomes.Wide moves points at) = obstacle_text m moves.items (map points_in points.items) (Wide at)
outcome_text m (outcomes.Large moves points at) = obstacle_text m moves.items (map points_in points.items) (Large at)
outcome_text m (outcomes.Exhausted moves points at what) =
    obstacle_text m moves.items (map points_in points.items) (Exhausted at what)
