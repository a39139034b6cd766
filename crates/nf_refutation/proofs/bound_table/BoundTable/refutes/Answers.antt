use Rattle.std.proofs.Common.{sym, ap, ◌∙◌}
use Rattle.nf_rel.specs.Literals.{is_refuted_at}
use Rattle.nf_rel.specs.View.{literal_in}
use Rattle.nf_refutation.proofs.Left.{refuted_so}
use Rattle.nf_refutation.proofs.bound_table.BoundTable.refutes.Goals as goal

pub returns-in-True : goal.returns-in-True
returns-in-True c = λ ls a. sym (ap (is_refuted_at ls) (ap literal_in c.in-True.is))

pub returns-in-False : goal.returns-in-False
returns-in-False c = λ ls a. sym (ap (is_refuted_at ls) (ap literal_in c.in-False.is))

pub returns-in-Is : goal.returns-in-Is
returns-in-Is c = λ ls a.
    refuted_so c.args.self.now c.in-Is.bound.dir ls c.leaves_none.result a c.leaves_none.ensures ∙ sym (ap (is_refuted_at ls) (ap literal_in c.in-Is.is))
