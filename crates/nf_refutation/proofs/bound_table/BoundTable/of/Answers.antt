use Rattle.std.proofs.Common.{◌+◌, map, drop}
use Rattle.nf_rel.specs.View.{literal_in}
use Rattle.nf_refutation.proofs.Left.{literals_left_begin, no_more, gathers_none, gathers_more, gathers_all}
use Rattle.nf_refutation.proofs.bound_table.BoundTable.of.Goals as goal

pub loop-literal-init : goal.loop-literal-init
loop-literal-init c = gathers_none c.new-table.result (map literal_in c.args.list.now) c.new-table.ensures

pub loop-literal-preserved : goal.loop-literal-preserved
loop-literal-preserved c =
    let i = c.loop-literal.literal-index in
    let list = c.args.list.now in
    gathers_more c.loop-literal.table c.add_literal.new.self (literal_in c.literal-item.result) (map literal_in (drop (i + 1) list))
    (map literal_in (drop i list)) (map literal_in list)
    c.in_ok-add_literal.ensures (literals_left_begin list i c.literal-item.result c.loop-literal-test.true c.literal-item.is) c.loop-literal.invariant

pub returns : goal.returns
returns c =
    let i = c.loop-literal.literal-index in
    let list = c.args.list.now in
    gathers_all c.loop-literal.table (map literal_in (drop i list)) (map literal_in list) (no_more list i c.loop-literal-test.false) c.loop-literal.invariant
