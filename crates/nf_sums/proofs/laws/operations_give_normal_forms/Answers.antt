use Rattle.nf_sums.proofs.Given.{negation_given}
use Rattle.nf_sums.proofs.laws.operations_give_normal_forms.Goals as goal

pub returns-clause-negation : goal.returns-clause-negation
returns-clause-negation c = negation_given
