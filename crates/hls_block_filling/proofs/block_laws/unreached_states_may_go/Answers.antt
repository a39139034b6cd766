use Rattle.hls_block_filling.proofs.Selecting.{selected_behaves}
use Rattle.hls_block_filling.proofs.block_laws.unreached_states_may_go.Goals as goal

pub returns : goal.returns
returns c = selected_behaves
