use Rattle.hls_block_filling.proofs.Emits.{emits_few}
use Rattle.hls_block_filling.proofs.placing_laws.a_row_emits_as_one_item_does.Goals as goal

pub returns : goal.returns
returns c = emits_few
