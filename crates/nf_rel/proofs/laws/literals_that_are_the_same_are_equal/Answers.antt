use Rattle.nf_rel.proofs.NormalLaws.{literals_equal, literal_same}
use Rattle.nf_rel.proofs.laws.literals_that_are_the_same_are_equal.Goals as goal

pub returns-clause-equal : goal.returns-clause-equal
returns-clause-equal c = literals_equal

pub returns-clause-same : goal.returns-clause-same
returns-clause-same c = literal_same
