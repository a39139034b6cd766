use Rattle.hls_shrink.proofs.ByName.{given_by_name}
use Rattle.hls_shrink.proofs.laws.inputs_are_given_by_name.Goals as goal

pub returns : goal.returns
returns c = given_by_name
