use Rattle.std.proofs.Common.{◌+◌, ◌&&◌, ◌≤◌, map, drop, ap, subst, arith}
use Rattle.std.specs.List.{flat_map}
use Rattle.fs_model.proofs.Lists.{map_drop_next}
use Rattle.cert_model.specs.View.{node_of}
use Rattle.cert_check.specs.View.{owed_in, most_owed, progress_in, verdict_in, NumberUpTo}
use Rattle.fs_cut.specs.Paths.{is_point}
use Rattle.cert_check.proofs.Steps.{passes_at, left_held, left_stop}
use Rattle.cert_check.proofs.verify.check_nodes.Goals as goal

pub returns-in-Stopped : goal.returns-in-Stopped
returns-in-Stopped c =
    let judged = (owed_in c.args.table.now) in
    let all = c.args.nodes.now in
    let i = c.loop-node.node-index in
    left_stop c.loop-node.number (verdict_in c.in-Stopped.verdict) (judged (node_of c.node-item.result)) (flat_map judged (map node_of (drop (i + 1) all)))
    (flat_map judged (map node_of (drop i all))) (flat_map judged (map node_of all)) c.args.first (progress_in c.in_ok-next.field-0)
    (ap (flat_map judged) (map_drop_next node_of all i c.node-item.result c.loop-node-test.true c.node-item.is))
    (ap progress_in c.in-Stopped.is) c.in_ok-next.ensures.owed c.loop-node.invariant.rest

pub loop-node-preserved : goal.loop-node-preserved
loop-node-preserved c =
    let judged = (owed_in c.args.table.now) in
    let all = c.args.nodes.now in
    let i = c.loop-node.node-index in
    let b : c.in-Held.next ≤ c.loop-node.number + most_owed = subst (NumberUpTo (c.loop-node.number + most_owed)) c.in-Held.is c.in_ok-next.ensures.bound in
    record {
      low = omega (arith, c.loop-node.invariant.low, b);
      rest = left_held c.loop-node.number c.in-Held.next (judged (node_of c.node-item.result)) (flat_map judged (map node_of (drop (i + 1) all)))
          (flat_map judged (map node_of (drop i all))) (flat_map judged (map node_of all)) c.args.first (progress_in c.in_ok-next.field-0)
          (ap (flat_map judged) (map_drop_next node_of all i c.node-item.result c.loop-node-test.true c.node-item.is))
          (ap progress_in c.in-Held.is) c.in_ok-next.ensures.owed c.loop-node.invariant.rest;
    }

pub check_node-requires-clause-points : goal.check_node-requires-clause-points
check_node-requires-clause-points c =
    passes_at (λ n. is_point c.args.table.now.a.now n.left && is_point c.args.table.now.b.now n.right) node_of c.args.nodes.now c.loop-node.node-index
    c.node-item.result c.loop-node-test.true c.node-item.is c.requires.points
