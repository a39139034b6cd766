use Rattle.fs_grammar.proofs.Examples.{left_sum, negated_literal}
use Rattle.fs_grammar.proofs.laws.chains_group_to_the_left.Goals as goal

pub returns-clause-sum : goal.returns-clause-sum
returns-clause-sum c = λ n x y z. left_sum n x y z

pub returns-clause-guard : goal.returns-clause-guard
returns-clause-guard c = λ n r x y z. negated_literal n r x y z
