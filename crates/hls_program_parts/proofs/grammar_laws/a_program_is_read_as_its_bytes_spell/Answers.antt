use Rattle.hls_program_parts.proofs.Texts.{spells, reads, stops, refuses}
use Rattle.hls_program_parts.proofs.grammar_laws.a_program_is_read_as_its_bytes_spell.Goals as goal

pub returns-clause-spells : goal.returns-clause-spells
returns-clause-spells c = λ bytes p. (spells bytes p, reads bytes p)

pub returns-clause-stops : goal.returns-clause-stops
returns-clause-stops c = λ bytes f. (stops bytes f, refuses bytes f)
