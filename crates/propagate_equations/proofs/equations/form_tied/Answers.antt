use Rattle.std.proofs.Common.{◌∙◌, ap, sym}
use Rattle.std.proofs.Math.ListN.{drop_of_length-le}
use Rattle.fs_model.proofs.Lists.{same_there}
use Rattle.nf_terms.specs.Computed.{Done}
use Rattle.propagate_equations.specs.Equations.{form_tied}
use Rattle.propagate_equations.proofs.FirstTie.{same_here, not_same}
use Rattle.propagate_equations.proofs.equations.form_tied.Goals as goal

pub returns-then-is_same : goal.returns-then-is_same
returns-then-is_same c =
    let freed = c.args.freed.now in
    let i = c.loop-q.q-index in
    ap Done
    (same_here c.args.v.now c.args.form.now freed i _ c.loop-q-test.true (same_there freed i _ _ c.loop-q-test.true) c.loop-q.invariant
    c.form.result.now (c.form.ensures ∙ c.in_ok-value.ensures) _ c.if-is_same.ensures c.in_ok-own_symbol.ensures)

pub loop-q-preserved : goal.loop-q-preserved
loop-q-preserved c =
    let freed = c.args.freed.now in
    let i = c.loop-q.q-index in
    not_same c.args.v.now c.args.form.now freed i _ c.loop-q-test.true (same_there freed i _ _ c.loop-q-test.true) c.loop-q.invariant
    c.form.result.now (c.form.ensures ∙ c.in_ok-value.ensures) c.if-is_same.ensures

pub returns : goal.returns
returns c = ap Done
    (sym c.loop-q.invariant ∙ ap (form_tied c.args.v.now c.args.form.now) (drop_of_length-le c.args.freed.now c.loop-q-test.false))
