use Rattle.propagate.proofs.Solved.{join_solved, rebase_solved}
use Rattle.propagate.proofs.laws.propagated_facts_are_solved.Goals as goal

pub returns-clause-join : goal.returns-clause-join
returns-clause-join c = join_solved

pub returns-clause-rebase : goal.returns-clause-rebase
returns-clause-rebase c = rebase_solved
