use Rattle.hls_program_parts.specs.View.{program_of}
use Rattle.hls_program_parts.proofs.Texts.{spells, stops}
use Rattle.hls_program_parts.proofs.WellFormed.{well_formed}
use Rattle.hls_program_text.proofs.read.read_program.Goals as goal

pub returns-in-Ok-clause-text : goal.returns-in-Ok-clause-text
returns-in-Ok-clause-text c = spells c.args.bytes.now (program_of c.in-Ok.program) c.in-Ok.ensures

pub returns-in-Ok-clause-well_formed : goal.returns-in-Ok-clause-well_formed
returns-in-Ok-clause-well_formed c = well_formed c.args.bytes.now (program_of c.in-Ok.program)
    (spells c.args.bytes.now (program_of c.in-Ok.program) c.in-Ok.ensures)

pub returns-in-Err-Text-clause-faulty : goal.returns-in-Err-Text-clause-faulty
returns-in-Err-Text-clause-faulty c =
    stops c.args.bytes.now c.in-Err-Text.fault (rw c.in-Err-Text.field-0-is at c.in-Err-Text.ensures)
