use Rattle.hls_program_parts.proofs.Programs.{does_as}
use Rattle.hls_program_parts.proofs.laws.a_program_is_compiled.Goals as goal

pub returns : goal.returns
returns c = λ p few. does_as p few
