use Rattle.fsmd_answers.proofs.reading.read_inputs.Goals as goal

pub returns-in-Err-clause-refused : goal.returns-in-Err-clause-refused
returns-in-Err-clause-refused c = c.refused_inputs.ensures _ _ c.requires c.in-Err.ensures.refused
