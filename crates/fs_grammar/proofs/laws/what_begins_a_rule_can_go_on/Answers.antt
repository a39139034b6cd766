use Rattle.fs_grammar.proofs.Alternatives.{completed, front_begins}
use Rattle.fs_grammar.proofs.laws.what_begins_a_rule_can_go_on.Goals as goal

pub returns-clause-more : goal.returns-clause-more
returns-clause-more c = λ r ws b. completed r ws b

pub returns-clause-front : goal.returns-clause-front
returns-clause-front c = λ r a b h. front_begins r a b h
