use Rattle.propagate.proofs.Strength.{join_weaker}
use Rattle.propagate.proofs.laws.joins_say_less.Goals as goal

pub returns : goal.returns
returns c = join_weaker
