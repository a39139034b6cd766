use Rattle.std.proofs.Common.{refl}
use Rattle.std.proofs.lemmas.Result.{on_ok_weaker}
use Rattle.sym_facts.specs.View.{position_in}
use Rattle.show_fact_text.specs.LostLines.{lost_equation}
use Rattle.show_fact_text.specs.View.{side_names_in}
use Rattle.show_fact_text.proofs.Lookups.{both_added, member_added, nothing_added}
use Rattle.show_fact_text.proofs.losses.write_lost_equation.Goals as goal

pub returns-in_ok-write_position-in-Some : goal.returns-in_ok-write_position-in-Some
returns-in_ok-write_position-in-Some c =
    on_ok_weaker c.write_came.result
    (λ e. member_added position_in (lost_equation (side_names_in c.args.names.now) c.args.vector.now) c.args.positions.now c.args.place c.get.result
    c.get.ensures.lookup c.in-Some.position c.in-Some.is _ _ (both_added _ _ _ _ _ c.in_ok-write_position-in-Some.ensures e))
    c.write_came.ensures

pub returns-in-None : goal.returns-in-None
returns-in-None c =
    nothing_added position_in (lost_equation (side_names_in c.args.names.now) c.args.vector.now) c.args.positions.now c.args.place c.get.result
    c.get.ensures.lookup c.in-None.is refl c.args.out.now.items
