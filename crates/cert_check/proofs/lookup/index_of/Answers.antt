use Rattle.std.proofs.Common.{◌+◌, map, drop}
use Rattle.fs_model.proofs.Lists.{map_drop_next}
use Rattle.cert_model.specs.View.{node_of}
use Rattle.cert_check.proofs.Keyed.{one_listed}
use Rattle.cert_check.proofs.lookup.index_of.Goals as goal

pub loop-node-preserved : goal.loop-node-preserved
loop-node-preserved c = λ P Q.
    let all = c.args.nodes.now in
    let i = c.loop-node.node-index in
    one_listed (node_of c.node-item.result) _ _ (map node_of (drop i all)) (map node_of (drop (i + 1) all)) _ P Q
    (map_drop_next node_of all i c.node-item.result c.loop-node-test.true c.node-item.is) (c.in_ok-put.ensures P Q) (c.loop-node.invariant P Q)
