use Rattle.alike_searches.proofs.RisenSubstitutions.{substituted_rises, array_rises}
use Rattle.alike_searches.proofs.RisenPaths.{arrival_rises}
use Rattle.alike_searches.proofs.term_laws.vectors_rise.Goals as goal

pub returns : goal.returns
returns c = record { number = substituted_rises; array = array_rises; arrival = arrival_rises }
