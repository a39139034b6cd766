use Rattle.nf_arrays.proofs.Values.{tidied_kept}
use Rattle.nf_arrays.proofs.laws.tidied_arrays_keep_the_meaning.Goals as goal

pub returns : goal.returns
returns c = tidied_kept
