use Rattle.search_tables.proofs.StartEntailed.{entails_itself}
use Rattle.search_tables.proofs.laws.the_start_fact_entails_itself.Goals as goal

pub returns : goal.returns
returns c = entails_itself
