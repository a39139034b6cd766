use Rattle.search_laws.proofs.Putting.{rises, orderly}
use Rattle.search_laws.proofs.json_laws.members_that_are_put_rise.Goals as goal

pub returns-clause-rise : goal.returns-clause-rise
returns-clause-rise c = rises

pub returns-clause-orderly : goal.returns-clause-orderly
returns-clause-orderly c = orderly
