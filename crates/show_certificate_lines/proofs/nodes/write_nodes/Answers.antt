use Rattle.std.proofs.Common.{map, refl}
use Rattle.cert_model.specs.View.{node_of}
use Rattle.search_tables.specs.SearchTables.{machines}
use Rattle.show_certificate_lines.specs.CertificateLines.{node_text, node_texts}
use Rattle.show_certificate_lines.proofs.Places.{next_at_place}
use Rattle.show_certificate_lines.proofs.nodes.write_nodes.Goals as goal

pub loop-place-preserved : goal.loop-place-preserved
loop-place-preserved c =
    let m = machines c.args.a.now c.args.b.now in
    let all = map node_of c.args.nodes.now in
    next_at_place (node_texts m all) (node_text m all) (λ k n ns. refl) node_of c.args.nodes.now c.loop-place.place c.index-nodes-place.result
    c.loop-place-test.true c.index-nodes-place.is _ _ _ c.in_ok-write_node.ensures c.loop-place.invariant
