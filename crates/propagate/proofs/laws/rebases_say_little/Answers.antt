use Rattle.propagate.proofs.Strength.{rebase_bounded}
use Rattle.propagate.proofs.laws.rebases_say_little.Goals as goal

pub returns : goal.returns
returns c = rebase_bounded
