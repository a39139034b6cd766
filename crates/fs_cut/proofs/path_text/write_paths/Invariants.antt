use Rattle.std.proofs.Common.{◌≡◌, ◌++◌, map, drop}
use Rattle.std.specs.List.{flat_map}
use Rattle.fs_cut.specs.View.{path_of}
use Rattle.fs_cut.specs.PathTexts.{path_line}
use Rattle.fs_cut.proofs.path_text.write_paths.Given as goal

abbrev pub invariant-loop-path : goal.invariant-loop-path
invariant-loop-path l =
    l.out.items ++ flat_map (path_line l.machine) (map path_of (drop l.path-index l.paths)) ≡ l.fn.out.items
    ++ flat_map (path_line l.machine) (map path_of l.paths)
