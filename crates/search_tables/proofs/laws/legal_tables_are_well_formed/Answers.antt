use Rattle.search_tables.proofs.Forming.{well_formed}
use Rattle.search_tables.proofs.laws.legal_tables_are_well_formed.Goals as goal

pub returns : goal.returns
returns c = well_formed
