use Rattle.fs_lex.proofs.Exact.{reserved, keywords, names, words, numbers, large, punctuation}
use Rattle.fs_lex.proofs.token_laws.a_kind_is_that_of_the_bytes.Goals as goal

pub returns-clause-reserved : goal.returns-clause-reserved
returns-clause-reserved c = reserved

pub returns-clause-keywords : goal.returns-clause-keywords
returns-clause-keywords c = keywords

pub returns-clause-names : goal.returns-clause-names
returns-clause-names c = names

pub returns-clause-words : goal.returns-clause-words
returns-clause-words c = words

pub returns-clause-numbers : goal.returns-clause-numbers
returns-clause-numbers c = numbers

pub returns-clause-large : goal.returns-clause-large
returns-clause-large c = large

pub returns-clause-punctuation : goal.returns-clause-punctuation
returns-clause-punctuation c = punctuation
