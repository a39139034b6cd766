use Rattle.std.proofs.Common.{[], ◌∷◌}
use Rattle.fs_cut.specs.View.{point_of}
use Rattle.cert_model.specs.Obligations.{nodes_at}
use Rattle.cert_model.specs.View.{node_of}
use Rattle.show_fact_text.proofs.Loops.{next_more_of}
use Rattle.show_certificate_lines.proofs.NodesSplit.{nodes_split}
use Rattle.show_certificate_lines.proofs.cases.nodes_at.Goals as goal

pub loop-node-preserved : goal.loop-node-preserved
loop-node-preserved c =
    let P = point_of c.args.left in
    let Q = point_of c.args.right in
    next_more_of (λ ns. nodes_at ns P Q) (λ n. nodes_at (n ∷ []) P Q) (nodes_split P Q) node_of c.args.nodes.now c.loop-node.node-index
    c.node-item.result c.loop-node-test.true c.node-item.is _ _ _ c.in_ok-push_at.ensures c.loop-node.invariant
