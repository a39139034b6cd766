use Rattle.search_tables.proofs.Lawful.{lawful}
use Rattle.search_tables.proofs.laws.certificates_of_tables_are_lawful.Goals as goal

pub returns : goal.returns
returns c = lawful
