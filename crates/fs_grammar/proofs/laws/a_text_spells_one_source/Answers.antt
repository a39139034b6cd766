use Rattle.fs_grammar.proofs.Formats.{one_format}
use Rattle.fs_grammar.proofs.Once.{one_source, one_file, one_sum, one_guard}
use Rattle.fs_grammar.proofs.laws.a_text_spells_one_source.Goals as goal

pub returns-clause-tokens : goal.returns-clause-tokens
returns-clause-tokens c = λ s r ts h k. one_source s r ts h k

pub returns-clause-words : goal.returns-clause-words
returns-clause-words c = λ f g s r ws h k. one_file f g s r ws h k

pub returns-clause-sums : goal.returns-clause-sums
returns-clause-sums c = λ s r ws h k. one_sum s r ws h k

pub returns-clause-guards : goal.returns-clause-guards
returns-clause-guards c = λ g h ws p q. one_guard g h ws p q

pub returns-clause-formats : goal.returns-clause-formats
returns-clause-formats c = λ f g s r ws h k. one_format f g s r ws h k
