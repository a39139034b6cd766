-- The texts of points.
use Rattle.std.specs.Prelude.{ℕ, List, ◌++◌, codes}
use Rattle.fs_cut.specs.Paths.{Point}
use Rattle.fs_cut.specs.PathTexts.{point_text}
use Rattle.search_tables.specs.SearchTables.{MachinePair}

abbrev pub points_text : MachinePair → (left right : Point) → List ℕ
points_text m P Q = point_text m.left P ++ (codes " | " ++ point_text m.right Q)
