use Rattle.hls_bind.proofs.Renamed.{bound_parts_behave}
use Rattle.hls_bind.proofs.laws.registers_keep_behaviour.Goals as goal

pub returns : goal.returns
returns c = λ p b rs sound sound_k binds are safe. bound_parts_behave b rs p sound binds are sound_k safe
