use Rattle.nf_arrays.proofs.Pushing.{push_value}
use Rattle.nf_arrays.proofs.laws.pushes_keep_the_meaning.Goals as goal

pub returns : goal.returns
returns c = push_value
