use Rattle.std.proofs.Common.{◌+◌, sym, ◌∙◌, map, drop}
use Rattle.nf_rel.specs.Literals.{is_refuted_at}
use Rattle.nf_rel.specs.View.{literal_in}
use Rattle.nf_refutation.proofs.Left.{literals_left_begin, no_more, any_here, any_on, any_none}
use Rattle.nf_refutation.proofs.bound_table.BoundTable.refutes_any.Goals as goal

pub returns-then-refutes : goal.returns-then-refutes
returns-then-refutes c = λ ls a.
    let i = c.loop-literal.literal-index in
    let list = c.args.list.now in
    any_here (is_refuted_at ls) (map literal_in (drop (i + 1) list)) (map literal_in (drop i list)) (map literal_in list) (literal_in c.literal-item.result)
    (literals_left_begin list i c.literal-item.result c.loop-literal-test.true c.literal-item.is) (sym c.if-refutes.true ∙ c.refutes.ensures ls a)
    (c.loop-literal.invariant ls a)

pub loop-literal-preserved : goal.loop-literal-preserved
loop-literal-preserved c = λ ls a.
    let i = c.loop-literal.literal-index in
    let list = c.args.list.now in
    any_on (is_refuted_at ls) (map literal_in (drop (i + 1) list)) (map literal_in (drop i list)) (map literal_in list) (literal_in c.literal-item.result)
    (literals_left_begin list i c.literal-item.result c.loop-literal-test.true c.literal-item.is) (sym c.if-refutes.false ∙ c.refutes.ensures ls a)
    (c.loop-literal.invariant ls a)

pub returns : goal.returns
returns c = λ ls a.
    let i = c.loop-literal.literal-index in
    let list = c.args.list.now in
    any_none (is_refuted_at ls) (map literal_in (drop (i + 1) list)) (map literal_in (drop i list)) (map literal_in list)
    (no_more list i c.loop-literal-test.false) (c.loop-literal.invariant ls a)
