use Rattle.alike_searches.proofs.RisenFacts.{start_rises, rebase_rises, join_rises, fact_vector_rises}
use Rattle.alike_searches.proofs.fact_laws.facts_rise.Goals as goal

pub returns-clause-start : goal.returns-clause-start
returns-clause-start c = start_rises

pub returns-clause-rebase : goal.returns-clause-rebase
returns-clause-rebase c = rebase_rises

pub returns-clause-join : goal.returns-clause-join
returns-clause-join c = join_rises

pub returns-clause-vector : goal.returns-clause-vector
returns-clause-vector c = fact_vector_rises
