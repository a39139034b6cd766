use Rattle.hls_block_filling.proofs.Dropping.{scheduled_behaves}
use Rattle.hls_block_filling.proofs.block_laws.a_scheduled_machine_behaves.Goals as goal

pub returns : goal.returns
returns c = scheduled_behaves
