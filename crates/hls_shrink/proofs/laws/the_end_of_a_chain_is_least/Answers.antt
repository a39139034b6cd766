use Rattle.hls_shrink.specs.Shrunk.{ShowDifference}
use Rattle.hls_shrink.proofs.Unique.{end_least}
use Rattle.hls_shrink.proofs.laws.the_end_of_a_chain_is_least.Goals as goal

pub returns : goal.returns
returns c = λ a b limit cs end p. end_least (ShowDifference a b limit) cs end p
