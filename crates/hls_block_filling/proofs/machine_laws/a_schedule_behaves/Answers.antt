use Rattle.hls_block_filling.proofs.Schedules.{behaves}
use Rattle.hls_block_filling.proofs.machine_laws.a_schedule_behaves.Goals as goal

pub returns : goal.returns
returns c = behaves
