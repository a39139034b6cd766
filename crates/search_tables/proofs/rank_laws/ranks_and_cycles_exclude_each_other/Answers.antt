use Rattle.search_tables.proofs.Falls.{no_cycle}
use Rattle.search_tables.proofs.rank_laws.ranks_and_cycles_exclude_each_other.Goals as goal

pub returns : goal.returns
returns c = no_cycle
