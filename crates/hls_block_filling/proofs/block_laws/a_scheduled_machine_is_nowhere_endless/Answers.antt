use Rattle.hls_block_filling.proofs.Ends.{nowhere_endless}
use Rattle.hls_block_filling.proofs.block_laws.a_scheduled_machine_is_nowhere_endless.Goals as goal

pub returns : goal.returns
returns c = λ m rows q sound keeps h e. nowhere_endless m sound rows keeps q h e
