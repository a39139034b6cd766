use Rattle.hls_block_filling.proofs.Tight.{length_is_chain}
use Rattle.hls_block_filling.proofs.filling_laws.with_units_for_all_the_length_is_the_chain.Goals as goal

pub returns : goal.returns
returns c = length_is_chain
