use Rattle.std.proofs.Common.{◌∙◌, ap, sym, map, Some}
use Rattle.std.proofs.Math.ListN.{drop_of_length-le}
use Rattle.nf_terms.specs.Computed.{Done}
use Rattle.propagate_equations.specs.Ties.{form_tied}
use Rattle.propagate_equations.specs.View.{freed_in}
use Rattle.propagate_equations.proofs.FirstTie.{is_here, not_here, alike_turn}
use Rattle.propagate_equations.proofs.ties.form_tied.Goals as goal

pub returns-then-branch : goal.returns-then-branch
returns-then-branch c = ap Done
    (is_here _ _ _ _
    (alike_turn freed_in c.args.v.now c.args.p.now c.args.form.now _ c.args.freed.now c.loop-other.other-index c.other-item.result c.loop-other-test.true
    c.other-item.is c.loop-other.invariant) (sym c.in_ok-is_alike.ensures ∙ c.if-branch.true)
    ∙ ap Some (sym c.in_ok-symbol_like.ensures))

pub loop-other-preserved : goal.loop-other-preserved
loop-other-preserved c = not_here _ _ _ _
    (alike_turn freed_in c.args.v.now c.args.p.now c.args.form.now _ c.args.freed.now c.loop-other.other-index c.other-item.result c.loop-other-test.true
    c.other-item.is c.loop-other.invariant) (sym c.in_ok-is_alike.ensures ∙ c.if-branch.false)

pub returns : goal.returns
returns c = ap Done
    (sym c.loop-other.invariant
    ∙ ap (λ fs. form_tied c.args.v.now c.args.p.now c.args.form.now (map freed_in fs)) (drop_of_length-le c.args.freed.now c.loop-other-test.false))
