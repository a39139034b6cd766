use Rattle.alike_searches.proofs.Opposites.{opposites_clash}
use Rattle.alike_searches.proofs.term_laws.opposite_literals_clash.Goals as goal

pub returns : goal.returns
returns c = opposites_clash
