use Rattle.fsmd_answers.proofs.schedules.read_units.Goals as goal

pub returns-in-Err-clause-refused : goal.returns-in-Err-clause-refused
returns-in-Err-clause-refused c = c.refused_units.ensures _ c.requires c.in-Err.ensures.refused
