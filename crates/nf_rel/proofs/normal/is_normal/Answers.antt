use Rattle.std.proofs.Common.{ap, sym, ◌∙◌}
use Rattle.nf_rel.specs.View.{literal_in}
use Rattle.nf_rel.proofs.NormalForms.{normal_with, not_normal_with}
use Rattle.nf_rel.proofs.normal.is_normal.Goals as goal

pub returns-then-is_inner : goal.returns-then-is_inner
returns-then-is_inner c =
    let b = c.in-Is.b in
    c.is_primitive.ensures
    ∙ normal_with (literal_in c.args.l.now) b.dir b.kind b.bound (ap literal_in c.in-Is.is) c.see_normal.ensures (sym c.is_inner.ensures ∙ c.if-is_inner.true)

pub returns-else-is_inner : goal.returns-else-is_inner
returns-else-is_inner c =
    let b = c.in-Is.b in
    c.if-is_inner.false
    ∙ not_normal_with (literal_in c.args.l.now) b.dir b.kind b.bound (ap literal_in c.in-Is.is) (sym c.is_inner.ensures ∙ c.if-is_inner.false)
