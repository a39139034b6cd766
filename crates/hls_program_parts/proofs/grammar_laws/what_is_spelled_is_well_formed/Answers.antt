use Rattle.hls_program_parts.proofs.WellFormed.{well_formed}
use Rattle.hls_program_parts.proofs.grammar_laws.what_is_spelled_is_well_formed.Goals as goal

pub returns : goal.returns
returns c = well_formed
