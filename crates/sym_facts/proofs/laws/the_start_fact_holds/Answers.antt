use Rattle.sym_facts.proofs.StartHolds.{start_holds}
use Rattle.sym_facts.proofs.laws.the_start_fact_holds.Goals as goal

pub returns : goal.returns
returns c = λ a b sound matched inputs. start_holds a b inputs sound matched
