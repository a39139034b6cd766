use Rattle.std.proofs.Common.{◌≡◌, ◌++◌, map, drop}
use Rattle.fs_cut.specs.View.{path_of}
use Rattle.search_places.specs.Moves.{rights_beside}
use Rattle.search_places.proofs.moves.push_rights.Given as goal

abbrev pub invariant-loop-path : goal.invariant-loop-path
invariant-loop-path l = l.out.items ++ rights_beside l.node l.left (map path_of (drop l.path-index l.rights)) ≡ l.initial.out.items
    ++ rights_beside l.node l.left (map path_of l.rights)
