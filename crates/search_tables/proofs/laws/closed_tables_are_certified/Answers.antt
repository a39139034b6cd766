use Rattle.search_tables.proofs.Certified.{certified}
use Rattle.search_tables.proofs.laws.closed_tables_are_certified.Goals as goal

pub returns : goal.returns
returns c = certified
