use Rattle.search_tables.proofs.Chains.{longest_from, shared_rank, end_rank}
use Rattle.search_tables.proofs.laws.ranks_of_certificates_are_lengths_of_chains.Goals as goal

pub returns-clause-longest : goal.returns-clause-longest
returns-clause-longest c = longest_from

pub returns-clause-both : goal.returns-clause-both
returns-clause-both c = shared_rank

pub returns-clause-end : goal.returns-clause-end
returns-clause-end c = end_rank
