use Rattle.std.proofs.Common.{◌≡◌, ◌++◌, ◌&&◌, true, map, drop}
use Rattle.std.specs.List.{list_all, AllByRecursion}
use Rattle.serde_json.specs.View.{view}
use Rattle.fs_cut.specs.Paths.{is_point}
use Rattle.cert_model.specs.View.{node_of}
use Rattle.cert_json.specs.WrittenJson.{node_data}
use Rattle.cert_writer.specs.WrittenCertificates.{node_written}
use Rattle.cert_model.specs.Kept.{HasNormalFact}
use Rattle.cert_writer.proofs.nodes.nodes_value.Given as goal

abbrev pub invariant-loop-node : goal.invariant-loop-node
invariant-loop-node l = record {
  points : list_all (λ n. is_point l.names.a.now n.left && is_point l.names.b.now n.right) (map node_of (drop l.node-index l.nodes)) ≡ true;
  written : map view l.out.items ++ map (λ n. node_data (node_written l.names.a.now l.names.b.now (node_of n))) (drop l.node-index l.nodes)
      ≡ map (λ n. node_data (node_written l.names.a.now l.names.b.now (node_of n))) l.nodes;
  kept : AllByRecursion HasNormalFact (map node_of (drop l.node-index l.nodes)) → AllByRecursion HasNormalFact (map node_of l.nodes);
}
