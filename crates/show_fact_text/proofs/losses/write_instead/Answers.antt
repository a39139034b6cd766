use Rattle.std.proofs.Common.{refl}
use Rattle.std.proofs.lemmas.Result.{on_ok_weaker}
use Rattle.sym_facts.specs.View.{position_in}
use Rattle.show_fact_text.specs.LostLines.{instead_line}
use Rattle.show_fact_text.specs.View.{side_names_in}
use Rattle.show_fact_text.proofs.Lookups.{member_added, nothing_added}
use Rattle.show_fact_text.proofs.losses.write_instead.Goals as goal

pub returns-in-Some : goal.returns-in-Some
returns-in-Some c =
    on_ok_weaker c.write_position.result
    (λ e. member_added position_in (instead_line (side_names_in c.args.names.now)) c.args.positions.now c.args.place c.get.result c.get.ensures.lookup
    c.in-Some.position c.in-Some.is _ _ e)
    c.write_position.ensures

pub returns-in-None : goal.returns-in-None
returns-in-None c =
    nothing_added position_in (instead_line (side_names_in c.args.names.now)) c.args.positions.now c.args.place c.get.result c.get.ensures.lookup
    c.in-None.is refl c.args.out.now.items
