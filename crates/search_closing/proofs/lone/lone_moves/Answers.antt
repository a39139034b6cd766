use Rattle.std.proofs.Common.{◌&&◌}
use Rattle.std.specs.List.{slice_index_or}
use Rattle.fs_cut.specs.Paths.{is_point}
use Rattle.cert_bisimulation.specs.declared.mode.Mode.TheVariants.{Both}
use Rattle.search_tables.specs.View.{table_in, search_node_in}
use Rattle.search_closing.specs.View.{covered_machines}
use Rattle.search_closing.proofs.Found.{keep_at, mode_read, node_read, passes}
use Rattle.search_closing.proofs.Edges.{edges_more, short_more}
use Rattle.search_closing.proofs.lone.lone_moves.Goals as goal

pub targets_at-requires-clause-points : goal.targets_at-requires-clause-points
targets_at-requires-clause-points c =
    let t = c.args.table.now in
    let n = c.node-item.result in
    passes (λ k. is_point t.machines.now.a.now k.left && is_point t.machines.now.b.now k.right)
    (table_in t.nodes.now) c.loop-place.place (search_node_in n) t.formed.points
    (node_read t.nodes.now c.loop-place.place n c.loop-place-test.true c.node-item.is)

pub targets_at-requires-clause-mode : goal.targets_at-requires-clause-mode
targets_at-requires-clause-mode c =
    let t = c.args.table.now in
    let n = c.node-item.result in
    mode_read (covered_machines t.machines.now) (table_in t.nodes.now) t.modes.now c.loop-place.place (search_node_in n) Both t.modes_are
    (node_read t.nodes.now c.loop-place.place n c.loop-place-test.true c.node-item.is)

pub targets_at-requires-clause-keep : goal.targets_at-requires-clause-keep
targets_at-requires-clause-keep c =
    let t = c.args.table.now in
    let n = c.node-item.result in
    keep_at (covered_machines t.machines.now) (table_in t.nodes.now) c.loop-place.place (search_node_in n)
    (slice_index_or t.modes.now c.loop-place.place Both) c.requires (node_read t.nodes.now c.loop-place.place n c.loop-place-test.true c.node-item.is)
    (targets_at-requires-clause-mode c)

pub loop-place-preserved : goal.loop-place-preserved
loop-place-preserved c =
    let t = c.args.table.now in
    record {
      edges = edges_more (covered_machines t.machines.now) (table_in t.nodes.now) t.nodes.now c.loop-place.out.items c.push.new.self.items
          c.in_ok-targets_at.field-0 c.loop-place.place c.node-item.result _ c.loop-place-test.true c.node-item.is c.in_ok-targets_at.ensures.targets
          c.in_ok-push.ensures.items c.loop-place.invariant.edges;
      short = short_more c.loop-place.out.items c.push.new.self.items c.in_ok-targets_at.field-0 c.in_ok-push.ensures.items c.in_ok-targets_at.ensures.few
          c.loop-place.invariant.short;
    }
