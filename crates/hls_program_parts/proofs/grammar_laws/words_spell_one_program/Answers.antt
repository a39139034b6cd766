use Rattle.hls_program_parts.proofs.Once.{one_program}
use Rattle.hls_program_parts.proofs.grammar_laws.words_spell_one_program.Goals as goal

pub returns : goal.returns
returns c = λ p q ws h k. one_program p q ws h k
