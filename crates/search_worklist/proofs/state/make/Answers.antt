use Rattle.std.proofs.Common.{subst}
use Rattle.fs_cut.specs.View.{point_of}
use Rattle.search_places.specs.NodeRecords.{node_records}
use Rattle.search_waiting.specs.ItemOrder.{waits, AddsAll}
use Rattle.search_worklist.proofs.Changed.{put_ready, put_table}
use Rattle.search_worklist.proofs.state.make.Goals as goal

pub returns-clause-ready : goal.returns-clause-ready
returns-clause-ready c = λ m ready.
    put_ready (node_records c.args.state.now.entries.entries) (node_records c.put.new.nodes.entries) (point_of c.args.change.left)
    (point_of c.args.change.right) c.args.change.fact c.in_ok-put.put.number c.in_ok-put.put.arrivals.items c.in_ok-put.ensures
    m c.args.state.now.waiting c.add.new.waiting c.add_all.new.waiting c.args.state.now.units c.args.change.units c.in_ok-add.ensures.added
    (subst (λ ys. AddsAll (waits c.add.new.waiting) (waits c.add_all.new.waiting) ys) c.as_slice.ensures.value c.in_ok-add_all.ensures) c.requires.sized ready

pub returns-clause-table : goal.returns-clause-table
returns-clause-table c =
    put_table (node_records c.args.state.now.entries.entries) (node_records c.put.new.nodes.entries) (point_of c.args.change.left)
    (point_of c.args.change.right) c.args.change.fact c.in_ok-put.put.number c.in_ok-put.put.arrivals.items c.in_ok-put.ensures
