use Rattle.search_tables.proofs.FactsOfPairing.{legal_facts}
use Rattle.search_tables.proofs.laws.facts_of_legal_tables_are_of_the_pairing.Goals as goal

pub returns : goal.returns
returns c = legal_facts
