use Rattle.fsmd_answers.proofs.reading.read_certificate.Goals as goal

pub returns-in-Err-clause-refused : goal.returns-in-Err-clause-refused
returns-in-Err-clause-refused c = c.refused_certificate.ensures _ _ _ c.requires.few c.in-Err.ensures.refused
