use Rattle.hls_shrink.specs.Shrunk.{ShowDifference}
use Rattle.hls_shrink.proofs.Unique.{end_once}
use Rattle.hls_shrink.proofs.laws.a_chain_of_first_reductions_has_one_end.Goals as goal

pub returns : goal.returns
returns c = λ a b limit cs x y p q. end_once (ShowDifference a b limit) cs x y p q
