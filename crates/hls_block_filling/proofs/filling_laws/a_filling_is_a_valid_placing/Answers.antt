use Rattle.hls_block_filling.proofs.Placings.{is_filled}
use Rattle.hls_block_filling.proofs.filling_laws.a_filling_is_a_valid_placing.Goals as goal

pub returns : goal.returns
returns c = is_filled
