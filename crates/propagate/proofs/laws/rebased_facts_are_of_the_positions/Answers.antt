use Rattle.propagate.proofs.Paired.{rebase_paired}
use Rattle.propagate.proofs.laws.rebased_facts_are_of_the_positions.Goals as goal

pub returns : goal.returns
returns c = rebase_paired
