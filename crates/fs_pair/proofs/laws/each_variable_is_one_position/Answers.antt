use Rattle.fs_pair.proofs.Variables.{stands_for}
use Rattle.fs_pair.proofs.Once.{position_once}
use Rattle.fs_pair.proofs.laws.each_variable_is_one_position.Goals as goal

pub returns-clause-variable : goal.returns-clause-variable
returns-clause-variable c = stands_for

pub returns-clause-once : goal.returns-clause-once
returns-clause-once c = λ a b side x sound other h. position_once a b sound other side x h
