use Rattle.propagate.proofs.JoinPaired.{join_paired}
use Rattle.propagate.proofs.laws.joined_facts_are_of_the_positions.Goals as goal

pub returns : goal.returns
returns c = join_paired
