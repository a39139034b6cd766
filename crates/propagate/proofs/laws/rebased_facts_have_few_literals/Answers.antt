use Rattle.propagate.proofs.Strength.{few_literals}
use Rattle.propagate.proofs.laws.rebased_facts_have_few_literals.Goals as goal

pub returns : goal.returns
returns c = few_literals
