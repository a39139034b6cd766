use Rattle.nf_sums.proofs.Exact.{negated_means}
use Rattle.nf_sums.proofs.laws.operations_keep_the_meaning.Goals as goal

pub returns-clause-negation : goal.returns-clause-negation
returns-clause-negation c = negated_means
