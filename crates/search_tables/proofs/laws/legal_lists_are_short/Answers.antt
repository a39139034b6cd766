use Rattle.search_tables.proofs.Bounded.{legal_short}
use Rattle.search_tables.proofs.laws.legal_lists_are_short.Goals as goal

pub returns : goal.returns
returns c = legal_short
