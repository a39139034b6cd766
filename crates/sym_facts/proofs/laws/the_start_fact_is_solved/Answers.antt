use Rattle.sym_facts.proofs.StartSolved.{solved, of_the_pairing}
use Rattle.sym_facts.proofs.laws.the_start_fact_is_solved.Goals as goal

pub returns-clause-solved : goal.returns-clause-solved
returns-clause-solved c = solved

pub returns-clause-pairing : goal.returns-clause-pairing
returns-clause-pairing c = of_the_pairing
