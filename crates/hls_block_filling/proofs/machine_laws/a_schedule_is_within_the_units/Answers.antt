use Rattle.hls_block_filling.proofs.Within.{stays_within}
use Rattle.hls_block_filling.proofs.machine_laws.a_schedule_is_within_the_units.Goals as goal

pub returns : goal.returns
returns c = stays_within
