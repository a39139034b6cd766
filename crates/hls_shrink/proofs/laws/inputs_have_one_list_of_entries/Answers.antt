use Rattle.hls_shrink.proofs.Unique.{entries_once}
use Rattle.hls_shrink.proofs.laws.inputs_have_one_list_of_entries.Goals as goal

pub returns : goal.returns
returns c = λ cs es fs a b. entries_once 0 cs es fs a b
