use Rattle.std.proofs.Common.{◌≡◌, ◌++◌, map, drop}
use Rattle.std.specs.List.{flat_map}
use Rattle.fs_cut.specs.Covers.{paths_from, cover_of}
use Rattle.fs_cut.specs.View.{point_of}
use Rattle.fs_cut.specs.PathTexts.{path_line}
use Rattle.fs_cut.proofs.path_text.write_points.Given as goal

abbrev pub invariant-loop-point : goal.invariant-loop-point
invariant-loop-point l =
    l.out.items ++ flat_map (λ P. flat_map (path_line l.machine) (paths_from (cover_of l.machine) P)) (map point_of (drop l.point-index l.points))
    ≡ flat_map (λ P. flat_map (path_line l.machine) (paths_from (cover_of l.machine) P)) (map point_of l.points)
