use Rattle.fsmd_answers.proofs.bindings.read_binding.Goals as goal

pub returns-in-Err-clause-refused : goal.returns-in-Err-clause-refused
returns-in-Err-clause-refused c = c.refused_binding.ensures _ _ c.requires c.in-Err.ensures.refused
