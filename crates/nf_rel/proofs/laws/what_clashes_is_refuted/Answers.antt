use Rattle.nf_rel.proofs.Clashing.{pair_refutes, clash_refutes, clash_implies}
use Rattle.nf_rel.proofs.laws.what_clashes_is_refuted.Goals as goal

pub returns-clause-least : goal.returns-clause-least
returns-clause-least c = pair_refutes

pub returns-clause-places : goal.returns-clause-places
returns-clause-places c = clash_refutes

pub returns-clause-implied : goal.returns-clause-implied
returns-clause-implied c = clash_implies
