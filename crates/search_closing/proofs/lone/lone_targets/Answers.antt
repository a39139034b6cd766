use Rattle.fs_cut.specs.View.{path_of}
use Rattle.search_tables.specs.LoneMoves.{lone_mode}
use Rattle.search_tables.specs.View.{table_in, search_node_in}
use Rattle.search_closing.specs.LoneSideMoves.{lone_path}
use Rattle.search_closing.specs.View.{covered_machines, as_list}
use Rattle.search_closing.proofs.Edges.{keep_next, targets_more, few_more}
use Rattle.search_closing.proofs.lone.lone_targets.Goals as goal

pub loop-path-preserved : goal.loop-path-preserved
loop-path-preserved c =
    let m = covered_machines c.args.table.now.machines.now in
    let T = table_in c.args.table.now.nodes.now in
    let n = search_node_in c.args.node.now in
    let ps = c.args.paths.now in
    let i = c.loop-path.path-index in
    let p = c.path-item.result in
    let old = c.loop-path.out.items in
    record {
      keep = (keep_next m T n (lone_path c.args.side) path_of ps i p c.loop-path-test.true c.path-item.is c.loop-path.invariant.keep).1;
      targets = targets_more m T n (lone_path c.args.side) path_of ps i p c.loop-path-test.true c.path-item.is (lone_mode c.args.side) old
          c.push.new.out.items (as_list c.in_ok-lone_target.field-0) _ c.in_ok-lone_target.ensures c.in_ok-push.ensures
          c.loop-path.invariant.targets;
      few = few_more old c.push.new.out.items c.in_ok-lone_target.field-0 i c.in_ok-push.ensures c.loop-path.invariant.few;
    }
