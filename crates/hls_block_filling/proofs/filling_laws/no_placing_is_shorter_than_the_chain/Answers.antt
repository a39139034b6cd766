use Rattle.hls_block_filling.proofs.Chains.{no_shorter}
use Rattle.hls_block_filling.proofs.filling_laws.no_placing_is_shorter_than_the_chain.Goals as goal

pub returns : goal.returns
returns c = no_shorter
