use Rattle.alike_searches.proofs.EvenJoins.{join_even}
use Rattle.alike_searches.proofs.fact_laws.joins_keep_evenness.Goals as goal

pub returns : goal.returns
returns c = join_even
