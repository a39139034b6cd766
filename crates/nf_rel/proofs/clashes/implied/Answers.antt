use Rattle.std.proofs.Common.{map, sym, ap, ◌∙◌}
use Rattle.nf_rel.specs.View.{literal_in}
use Rattle.nf_rel.proofs.Clashing.{true_implied, false_implied, bound_implied, false_implies}
use Rattle.nf_rel.proofs.clashes.implied.Goals as goal

pub returns-in-True : goal.returns-in-True
returns-in-True c = true_implied (map literal_in c.args.list.now) (literal_in c.args.l.now) (ap literal_in c.in-True.is)

pub returns-in-False : goal.returns-in-False
returns-in-False c = c.has_false.ensures ∙ false_implied (map literal_in c.args.list.now) (literal_in c.args.l.now) (ap literal_in c.in-False.is)

pub returns-then-has_false : goal.returns-then-has_false
returns-then-has_false c =
    c.if-has_false.true ∙ sym (false_implies (map literal_in c.args.list.now) (literal_in c.args.l.now) (sym c.has_false-in-Is.ensures ∙ c.if-has_false.true))

pub returns-else-has_false : goal.returns-else-has_false
returns-else-has_false c =
    let b = c.in-Is.bound in
    c.negation_refuted.ensures
    ∙ bound_implied (map literal_in c.args.list.now) (literal_in c.args.l.now) b.dir b.kind b.bound (ap literal_in c.in-Is.is)
    (sym c.has_false-in-Is.ensures ∙ c.if-has_false.false)
