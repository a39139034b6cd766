-- Moves of one machine alone from a node of a closed table.
use Rattle.std.specs.Prelude.{◌≡◌, ℕ, ◌≤◌, List, length, Some, None}
use Rattle.std.specs.List.{AllByRecursion}
use Rattle.fs_model.specs.Limits.{most_branches}
use Rattle.fs_cut.specs.Paths.{Path}
use Rattle.cert_bisimulation.specs.declared.mode.Mode.{Mode}
use Rattle.fs_model.specs.declared.sides.Side.{Side}
use Rattle.fs_model.specs.declared.sides.Side.TheVariants as side
use Rattle.sym_paths.specs.Execution.{end_of}
use Rattle.search_tables.specs.SearchTables.{MachinePair, SearchNode, Table, Keeps, PathPair, effect, arrival}
use Rattle.search_tables.specs.LoneMoves.{lone_target as target_by}

-- a path that one side takes alone
abbrev pub lone_path : Side → Path → PathPair
lone_path side.Left p = record { left = Some p; right = None }
lone_path side.Right q = record { left = None; right = Some q }

-- where a node leads by paths in a mode in which one machine moves alone, if that moves alone from there too
abbrev pub lone_move_target : MachinePair → Table → SearchNode → Mode → PathPair → List ℕ
lone_move_target m T n x y = target_by m T x (end_of n.left y.left) (end_of n.right y.right) (arrival m n y)

-- moving from a node by each of these keeps a table
abbrev pub Keep : MachinePair → Table → SearchNode → List PathPair → Type 0
Keep m T n xs = AllByRecursion (λ x. effect m T n x ≡ Keeps) xs

-- no node has many targets
abbrev pub AreShort : List (List ℕ) → Type 0
AreShort E = AllByRecursion (λ js. length js ≤ most_branches) E
