use Rattle.std.proofs.Common.{◌≡◌, ◌++◌, map, drop, option_map}
use Rattle.fs_cut.specs.View.{path_of}
use Rattle.cert_model.specs.View.{node_of}
use Rattle.search_tables.specs.SearchTables.{machines}
use Rattle.show_certificate_lines.specs.Demands.{right_demands}
use Rattle.show_certificate_lines.proofs.move_demands.push_rights.Given as goal

abbrev pub invariant-loop-right : goal.invariant-loop-right
invariant-loop-right l =
    map (λ t. t.items) l.out.items ++ right_demands (machines l.a l.b) (map node_of l.nodes) (node_of l.node) (option_map (λ p. path_of p.now) l.left)
    (map path_of (drop l.right-index l.rights)) ≡ map (λ t. t.items) l.fn.out.items
    ++ right_demands (machines l.a l.b) (map node_of l.nodes) (node_of l.node) (option_map (λ p. path_of p.now) l.left) (map path_of l.rights)
