use Rattle.std.proofs.Common.{◌≡◌, ◌++◌, map, drop}
use Rattle.fs_cut.specs.View.{path_of}
use Rattle.search_places.specs.Moves.{pairs}
use Rattle.search_places.proofs.moves.push_pairs.Given as goal

abbrev pub invariant-loop-path : goal.invariant-loop-path
invariant-loop-path l = l.out.items ++ pairs l.node (map path_of (drop l.path-index l.lefts)) (map path_of l.rights) ≡ l.initial.out.items
    ++ pairs l.node (map path_of l.lefts) (map path_of l.rights)
