use Rattle.std.proofs.Common.{refl}
use Rattle.std.proofs.lemmas.Result.{on_ok_weaker}
use Rattle.nf_rel.specs.View.{literal_in}
use Rattle.show_fact_text.specs.LostLines.{lost_literal}
use Rattle.show_fact_text.specs.View.{side_names_in}
use Rattle.show_fact_text.proofs.Lookups.{member_added, nothing_added}
use Rattle.show_fact_text.proofs.losses.write_lost_literal.Goals as goal

pub returns-in-Some : goal.returns-in-Some
returns-in-Some c =
    on_ok_weaker c.write_condition.result
    (λ e. member_added literal_in (lost_literal (side_names_in c.args.names.now)) c.args.literals.now c.args.index c.get.result c.get.ensures.lookup
    c.in-Some.literal c.in-Some.is _ _ e)
    c.write_condition.ensures

pub returns-in-None : goal.returns-in-None
returns-in-None c =
    nothing_added literal_in (lost_literal (side_names_in c.args.names.now)) c.args.literals.now c.args.index c.get.result c.get.ensures.lookup
    c.in-None.is refl c.args.out.now.items
