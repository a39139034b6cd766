use Rattle.fs_lex.proofs.Texts.{spells, reads, stops, refuses}
use Rattle.fs_lex.proofs.text_laws.a_text_is_read_as_its_bytes_spell.Goals as goal

pub returns-clause-spells : goal.returns-clause-spells
returns-clause-spells c = λ bytes s. (spells bytes s, reads bytes s)

pub returns-clause-stops : goal.returns-clause-stops
returns-clause-stops c = λ bytes f. (stops bytes f, refuses bytes f)
