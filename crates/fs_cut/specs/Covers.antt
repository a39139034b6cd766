-- The points of a machine, each with its paths.
use Rattle.std.specs.Prelude.{ℕ, zero, suc, ◌==◌, Bool, true, false, cond, List, [], ◌∷◌, ◌++◌, map, length, filter}
use Rattle.std.specs.List.{range_with_len, list_any}
use Rattle.fs_model.specs.SoundMachines.{branch_count, is_cutpoint}
use Rattle.fs_model.specs.Machines.{Fsmd}
use Rattle.fs_cut.specs.Paths.{Point, Start, At, Done, Path, is_fork, end_at, target_of}

-- from a state on, the states that are left by their one branch, at most n
abbrev pub passed_states : Fsmd → ℕ → ℕ → List ℕ
passed_states m zero q = []
passed_states m (suc n) q = cond (is_cutpoint m q) [] (q ∷ passed_states m n (target_of m q 0))

-- the state to which they lead
abbrev pub state_reached : Fsmd → ℕ → ℕ → ℕ
state_reached m zero q = q
state_reached m (suc n) q = cond (is_cutpoint m q) q (state_reached m n (target_of m q 0))

-- the path from a point by a branch of its state q
abbrev pub path_by : Fsmd → Point → ℕ → ℕ → Path
path_by m P q k =
    let first = target_of m q k in
    record {
      from = P;
      branch = k;
      states = q ∷ passed_states m (length m.states) first;
      to = end_at m (state_reached m (length m.states) first);
    }

-- the paths from a point by the branches of its state q, in order
abbrev pub paths_by : Fsmd → Point → ℕ → List Path
paths_by m P q = map (path_by m P q) (range_with_len 0 (branch_count m q))

-- the paths of a point
abbrev pub paths_of : Fsmd → Point → List Path
paths_of m Start = paths_by m Start m.reset
paths_of m (At q) = paths_by m (At q) q
paths_of m Done = []

-- the points of a machine
abbrev pub points_of : Fsmd → List Point
points_of m = Start ∷ (map At (filter (is_fork m) (range_with_len 0 (length m.states))) ++ Done ∷ [])

-- a point with its paths
pub record PointPaths : Type 0 where
  pub point : Point
  pub paths : List Path

-- points with what is listed for each
abbrev pub points_with_paths : (Point → List Path) → List Point → List PointPaths
points_with_paths f ps = map (λ P. record { point = P; paths = f P }) ps

-- the cover of a machine
abbrev pub cover_of : Fsmd → List PointPaths
cover_of m = points_with_paths (paths_of m) (points_of m)

abbrev pub same_point : Point → Point → Bool
same_point Start Start = true
same_point Start (At r) = false
same_point Start Done = false
same_point (At q) Start = false
same_point (At q) (At r) = q == r
same_point (At q) Done = false
same_point Done Start = false
same_point Done (At r) = false
same_point Done Done = true

-- whether a point is listed
abbrev pub has_point : List PointPaths → Point → Bool
has_point es P = list_any (λ e. same_point e.point P) es

-- the paths that are listed for a point
abbrev pub paths_from : List PointPaths → Point → List Path
paths_from [] P = []
paths_from (e ∷ es) P = cond (same_point e.point P) e.paths (paths_from es P)
