use Rattle.std.proofs.Common.{◌≡◌, ◌++◌, map, drop}
use Rattle.fs_cut.specs.View.{path_of}
use Rattle.cert_model.specs.View.{node_of}
use Rattle.search_tables.specs.SearchTables.{machines}
use Rattle.show_certificate_lines.specs.Demands.{left_demands}
use Rattle.show_certificate_lines.proofs.move_demands.push_lefts.Given as goal

abbrev pub invariant-loop-left : goal.invariant-loop-left
invariant-loop-left l =
    map (λ t. t.items) l.out.items ++ left_demands (machines l.a l.b) (map node_of l.nodes) (node_of l.node) (map path_of (drop l.left-index l.lefts))
    ≡ map (λ t. t.items) l.fn.out.items ++ left_demands (machines l.a l.b) (map node_of l.nodes) (node_of l.node) (map path_of l.lefts)
