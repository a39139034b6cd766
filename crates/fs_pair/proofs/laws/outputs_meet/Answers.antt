use Rattle.fs_pair.proofs.SameOutputs.{same_outputs}
use Rattle.fs_pair.proofs.laws.outputs_meet.Goals as goal

pub returns : goal.returns
returns c = same_outputs
