use Rattle.hls_block_filling.proofs.GreatestWalks.{are_greatest, is_greatest_chain}
use Rattle.hls_block_filling.proofs.filling_laws.heights_are_greatest_walks.Goals as goal

pub returns-clause-heights : goal.returns-clause-heights
returns-clause-heights c = are_greatest

pub returns-clause-chain : goal.returns-clause-chain
returns-clause-chain c = is_greatest_chain
