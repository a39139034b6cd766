-- The texts of points and paths.
use Rattle.std.specs.Prelude.{ℕ, List, ◌++◌, length, codes, decimal}
use Rattle.std.specs.List.{flat_map}
use Rattle.fs_model.specs.Machines.{Fsmd}
use Rattle.fs_ast.specs.StoredBranches.{state_name_of}
use Rattle.fs_cut.specs.Paths.{Point, Start, At, Done, Path}
use Rattle.fs_cut.specs.Covers.{paths_from, points_of, cover_of}

-- a point: the state's name between the start and the return
abbrev pub point_text : Fsmd → Point → List ℕ
point_text m Start = codes "start"
point_text m (At q) = state_name_of m q
point_text m Done = codes "done"

-- a path: where it begins, its branch, and where it ends
abbrev pub named_path : Fsmd → Path → List ℕ
named_path m p = point_text m p.from ++ (codes "." ++ (decimal p.branch ++ (codes ">" ++ point_text m p.to)))

-- the line of a path, with its number of steps
abbrev pub path_line : Fsmd → Path → List ℕ
path_line m p = named_path m p ++ (codes ": " ++ (decimal (length p.states) ++ codes " steps\n"))

-- the paths of each point in order
abbrev pub paths_text : Fsmd → List ℕ
paths_text m = flat_map (λ P. flat_map (path_line m) (paths_from (cover_of m) P)) (points_of m)
