use Rattle.std.proofs.Common.{◌≡◌, ◌++◌, map, drop}
use Rattle.cert_model.specs.View.{node_of}
use Rattle.search_tables.specs.SearchTables.{machines}
use Rattle.show_certificate_lines.specs.CertificateLines.{node_texts}
use Rattle.show_certificate_lines.proofs.nodes.write_nodes.Given as goal

abbrev pub invariant-loop-place : goal.invariant-loop-place
invariant-loop-place l =
    l.out.items ++ node_texts (machines l.a l.b) (map node_of l.nodes) l.place (map node_of (drop l.place l.nodes)) ≡ l.fn.out.items
    ++ node_texts (machines l.a l.b) (map node_of l.nodes) 0 (map node_of l.nodes)
