use Rattle.sym_paths.proofs.Arrivals.{arrived}
use Rattle.sym_paths.proofs.laws.arrivals_mean_their_paths.Goals as goal

pub returns-clause-conditions : goal.returns-clause-conditions
returns-clause-conditions c = λ a b ls v left right post w e. (arrived a b ls v left right post w e).true_where

pub returns-clause-left : goal.returns-clause-left
returns-clause-left c = λ a b ls v left right post w e. (arrived a b ls v left right post w e).left_end

pub returns-clause-right : goal.returns-clause-right
returns-clause-right c = λ a b ls v left right post w e. (arrived a b ls v left right post w e).right_end
