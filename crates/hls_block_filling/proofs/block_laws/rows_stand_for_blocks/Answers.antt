use Rattle.hls_block_filling.proofs.Replacing.{replaced_behaves}
use Rattle.hls_block_filling.proofs.block_laws.rows_stand_for_blocks.Goals as goal

pub returns : goal.returns
returns c = λ m rows sound keeps. replaced_behaves m sound rows keeps
