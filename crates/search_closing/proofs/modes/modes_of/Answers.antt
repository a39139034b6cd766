use Rattle.std.proofs.Common.{◌&&◌}
use Rattle.fs_cut.specs.Paths.{is_point}
use Rattle.search_tables.specs.View.{table_in, search_node_in}
use Rattle.search_closing.specs.View.{covered_machines}
use Rattle.search_closing.proofs.Found.{found_at, node_read, passes, modes_more}
use Rattle.search_closing.proofs.modes.modes_of.Goals as goal

pub mode_of-requires-clause-points : goal.mode_of-requires-clause-points
mode_of-requires-clause-points c =
    let m = covered_machines c.args.m.now in
    let n = c.node-item.result in
    passes (λ k. is_point m.left k.left && is_point m.right k.right) (table_in c.args.nodes.now) c.loop-node.node-index
    (search_node_in n) c.requires.formed.points (node_read c.args.nodes.now c.loop-node.node-index n c.loop-node-test.true c.node-item.is)

pub mode_of-requires-clause-found : goal.mode_of-requires-clause-found
mode_of-requires-clause-found c =
    let n = c.node-item.result in
    found_at (covered_machines c.args.m.now) (table_in c.args.nodes.now) c.loop-node.node-index (search_node_in n) c.requires.closed
    (node_read c.args.nodes.now c.loop-node.node-index n c.loop-node-test.true c.node-item.is)

pub loop-node-preserved : goal.loop-node-preserved
loop-node-preserved c = record {
  modes = modes_more (covered_machines c.args.m.now) c.args.nodes.now c.loop-node.out.items c.push.new.self.items c.loop-node.node-index
      c.node-item.result _ _ c.loop-node-test.true c.node-item.is c.in_ok-mode_of.ensures c.in_ok-push.ensures.items c.loop-node.invariant.modes;
}
