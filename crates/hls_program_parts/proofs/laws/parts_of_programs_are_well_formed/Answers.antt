use Rattle.hls_program_parts.proofs.WellFormedParts.{parts_fine}
use Rattle.hls_program_parts.proofs.laws.parts_of_programs_are_well_formed.Goals as goal

pub returns : goal.returns
returns c = λ p h. parts_fine p h
