use Rattle.nf_rel.proofs.NormalLaws.{negate_direction, negate_again}
use Rattle.nf_rel.proofs.laws.negation_keeps_the_direction.Goals as goal

pub returns-clause-direction : goal.returns-clause-direction
returns-clause-direction c = negate_direction

pub returns-clause-again : goal.returns-clause-again
returns-clause-again c = negate_again
