use Rattle.fs_grammar.proofs.Expressions.{operator_stands, one_part, since, tokens_end}
use Rattle.fs_grammar.proofs.laws.an_operator_stands_in_one_expression.Goals as goal

pub returns-clause-found : goal.returns-clause-found
returns-clause-found c = λ ws n t i b. operator_stands ws n t i b

pub returns-clause-one : goal.returns-clause-one
returns-clause-one c = λ ws p q h j. one_part ws p q h j

pub returns-clause-since : goal.returns-clause-since
returns-clause-since c = λ ws part h. since ws part h

pub returns-clause-tokens : goal.returns-clause-tokens
returns-clause-tokens c = λ ts t i b. tokens_end ts t i b
