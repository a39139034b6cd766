use Rattle.search_tables.proofs.Longest.{longest_chain}
use Rattle.search_tables.proofs.rank_laws.ranks_are_lengths_of_longest_chains.Goals as goal

pub returns : goal.returns
returns c = longest_chain
