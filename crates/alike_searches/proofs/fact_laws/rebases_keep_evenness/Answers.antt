use Rattle.alike_searches.proofs.EvenRebases.{rebase_even}
use Rattle.alike_searches.proofs.fact_laws.rebases_keep_evenness.Goals as goal

pub returns : goal.returns
returns c = rebase_even
