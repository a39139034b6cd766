use Rattle.show_fact_text.proofs.losses.write_asked.Goals as goal

pub returns : goal.returns
returns c = c.write_computed.ensures _ c.substitute_form.ensures
