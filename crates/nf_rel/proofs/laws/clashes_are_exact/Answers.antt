use Rattle.nf_rel.proofs.CommonNumbers.{clash_meets_none, none_meets_clash, clash_along_none, none_along_clash, false_clashes, clash_direction}
use Rattle.nf_rel.proofs.laws.clashes_are_exact.Goals as goal

pub returns-clause-none_meets : goal.returns-clause-none_meets
returns-clause-none_meets c = clash_meets_none

pub returns-clause-where_none_meets : goal.returns-clause-where_none_meets
returns-clause-where_none_meets c = none_meets_clash

pub returns-clause-none_along : goal.returns-clause-none_along
returns-clause-none_along c = clash_along_none

pub returns-clause-where_none_along : goal.returns-clause-where_none_along
returns-clause-where_none_along c = none_along_clash

pub returns-clause-where_false : goal.returns-clause-where_false
returns-clause-where_false c = false_clashes

pub returns-clause-direction : goal.returns-clause-direction
returns-clause-direction c = clash_direction
