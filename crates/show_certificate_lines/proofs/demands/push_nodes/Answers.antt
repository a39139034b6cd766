use Rattle.std.proofs.Common.{map, refl}
use Rattle.cert_model.specs.View.{node_of}
use Rattle.search_tables.specs.SearchTables.{machines}
use Rattle.show_certificate_lines.specs.Demands.{demands_of, demands_from}
use Rattle.show_certificate_lines.proofs.Places.{next_at_place}
use Rattle.show_certificate_lines.proofs.demands.push_nodes.Goals as goal

pub loop-place-preserved : goal.loop-place-preserved
loop-place-preserved c =
    let m = machines c.args.a.now c.args.b.now in
    let all = map node_of c.args.nodes.now in
    next_at_place (demands_from m all) (demands_of m all) (λ k n ns. refl) node_of c.args.nodes.now c.loop-place.place c.index-nodes-place.result
    c.loop-place-test.true c.index-nodes-place.is _ _ _ c.in_ok-push_node.ensures c.loop-place.invariant
