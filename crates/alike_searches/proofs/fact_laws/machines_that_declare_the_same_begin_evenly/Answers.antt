use Rattle.alike_searches.proofs.Coupled.{positions_couple}
use Rattle.alike_searches.proofs.EvenStart.{start_even}
use Rattle.alike_searches.proofs.fact_laws.machines_that_declare_the_same_begin_evenly.Goals as goal

pub returns-clause-couples : goal.returns-clause-couples
returns-clause-couples c = positions_couple

pub returns-clause-start : goal.returns-clause-start
returns-clause-start c = start_even
