use Rattle.std.proofs.Common.{◌≡◌, ◌++◌, map, drop}
use Rattle.fs_cut.specs.View.{path_of}
use Rattle.search_places.specs.Moves.{lefts_alone}
use Rattle.search_places.proofs.moves.push_lefts.Given as goal

abbrev pub invariant-loop-path : goal.invariant-loop-path
invariant-loop-path l = l.out.items ++ lefts_alone l.node (map path_of (drop l.path-index l.lefts)) ≡ l.initial.out.items
    ++ lefts_alone l.node (map path_of l.lefts)
