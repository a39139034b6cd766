-- The points and the paths of src/ as plain data.
use Rattle.std.specs.Prelude.{◌≡◌, false, List, [], map}
use Rattle.std.specs.List.{slice_index_or}
use Rattle.fs_cut.specs.declared.cover.Point.{Point as CodePoint}
use Rattle.fs_cut.specs.declared.cover.Point.TheVariants as code
use Rattle.fs_cut.specs.declared.cover.Path.{Path as CodePath}
use Rattle.fs_cut.specs.Paths.{Point, Start, At, Done, Path}
use Rattle.fs_cut.specs.Covers.{points_with_paths, has_point}

abbrev pub point_of : CodePoint → Point
point_of code.Start = Start
point_of (code.At s) = At s.0
point_of code.Done = Done

abbrev pub path_of : CodePath → Path
path_of p = record { from = point_of p.from; branch = p.branch; states = map (λ s. s.0) p.states.items; to = point_of p.to }

-- what is listed for a point, from the paths of the reset state and those of each state that is a point
abbrev pub listed_paths : List Path → List (List Path) → Point → List Path
listed_paths start forks Start = start
listed_paths start forks (At q) = slice_index_or forks q []
listed_paths start forks Done = []

-- nothing is listed for what isn't among the points
pub record ListsPoints (ps : List Point) (start : List Path) (forks : List (List Path)) : Type 0 where
  pub no_other : (P : Point) → has_point (points_with_paths (listed_paths start forks) ps) P ≡ false
      → listed_paths start forks P ≡ []
