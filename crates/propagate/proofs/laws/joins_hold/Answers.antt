use Rattle.propagate.proofs.Joined.{join_of_old, join_of_post}
use Rattle.propagate.proofs.laws.joins_hold.Goals as goal

pub returns-clause-old : goal.returns-clause-old
returns-clause-old c = join_of_old

pub returns-clause-post : goal.returns-clause-post
returns-clause-post c = join_of_post
