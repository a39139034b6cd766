use Rattle.std.proofs.Common.{◌≡◌, ◌++◌, map, drop}
use Rattle.cert_model.specs.View.{node_of}
use Rattle.search_tables.specs.SearchTables.{machines}
use Rattle.show_certificate_lines.specs.Demands.{demands_from}
use Rattle.show_certificate_lines.proofs.demands.push_nodes.Given as goal

abbrev pub invariant-loop-place : goal.invariant-loop-place
invariant-loop-place l =
    map (λ t. t.items) l.out.items ++ demands_from (machines l.a l.b) (map node_of l.nodes) l.place (map node_of (drop l.place l.nodes))
    ≡ map (λ t. t.items) l.fn.out.items ++ demands_from (machines l.a l.b) (map node_of l.nodes) 0 (map node_of l.nodes)
