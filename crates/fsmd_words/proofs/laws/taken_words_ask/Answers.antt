use Rattle.fsmd_words.proofs.Named.{is_asked, is_taken}
use Rattle.fsmd_words.proofs.laws.taken_words_ask.Goals as goal

pub returns-clause-taken : goal.returns-clause-taken
returns-clause-taken c = λ words taken. is_asked words taken

pub returns-clause-refused : goal.returns-clause-refused
returns-clause-refused c = λ words some. is_taken words some
