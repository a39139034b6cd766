use Rattle.search_tables.proofs.Prefixes.{one_is_a_prefix}
use Rattle.search_tables.proofs.laws.legal_lists_are_prefixes.Goals as goal

pub returns : goal.returns
returns c = one_is_a_prefix
