use Rattle.propagate.proofs.Rebased.{rebase_of_post}
use Rattle.propagate.proofs.laws.rebases_hold.Goals as goal

pub returns : goal.returns
returns c = rebase_of_post
