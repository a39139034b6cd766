-- The moves of a node, by the branches of their paths.
use Rattle.std.specs.Prelude.{ℕ, ◌*◌, List, [], map, Option, Some, None, slice_get}
use Rattle.std.specs.List.{flat_map}
use Rattle.fs_model.specs.Limits.{most_branches}
use Rattle.fs_cut.specs.Paths.{Path}
use Rattle.fs_cut.specs.Covers.{paths_of}
use Rattle.cert_bisimulation.specs.declared.mode.Mode.{Mode}
use Rattle.cert_bisimulation.specs.declared.mode.Mode.TheVariants.{Both, Left, Right, End}
use Rattle.search_tables.specs.declared.moves.Move.{Move}
use Rattle.search_tables.specs.SearchTables.{MachinePair, SearchNode, PathPair}

-- the most moves of a node
abbrev pub most_moves : ℕ
most_moves = most_branches * most_branches

abbrev pub move : ℕ → (left right : Option ℕ) → Move
move i l r = record { node = i; left = l; right = r }

-- the moves of node i by each right path, beside a left one or alone
abbrev pub rights_beside : ℕ → (left : Option ℕ) → (rights : List Path) → List Move
rights_beside i l qs = map (λ q. move i l (Some q.branch)) qs

-- by each left path alone
abbrev pub lefts_alone : ℕ → (lefts : List Path) → List Move
lefts_alone i ps = map (λ p. move i (Some p.branch) None) ps

-- by each left path with each right one
abbrev pub pairs : ℕ → (lefts rights : List Path) → List Move
pairs i ps qs = flat_map (λ p. rights_beside i (Some p.branch) qs) ps

-- the moves of a mode, in order of the left branch and then of the right one
abbrev pub moves_in_mode : ℕ → (lefts rights : List Path) → Mode → List Move
moves_in_mode i ps qs Both = pairs i ps qs
moves_in_mode i ps qs Left = lefts_alone i ps
moves_in_mode i ps qs Right = rights_beside i None qs
moves_in_mode i ps qs End = []

-- the path of a branch, if there is one
abbrev pub path_in : List Path → Option ℕ → Option Path
path_in ps None = None
path_in ps (Some k) = slice_get ps k

-- the paths of a move of a node
abbrev pub paths_at : MachinePair → SearchNode → Move → PathPair
paths_at m n x = record { left = path_in (paths_of m.left n.left) x.left; right = path_in (paths_of m.right n.right) x.right }
