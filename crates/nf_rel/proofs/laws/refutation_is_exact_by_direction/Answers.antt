use Rattle.nf_rel.proofs.Exact.{refuted_none, none_refuted}
use Rattle.nf_rel.proofs.Clashing.{refuted_is, some_direction, implied_met, met_implied, false_implies}
use Rattle.nf_rel.proofs.laws.refutation_is_exact_by_direction.Goals as goal

pub returns-clause-none_meets : goal.returns-clause-none_meets
returns-clause-none_meets c = refuted_none

pub returns-clause-where_none_meets : goal.returns-clause-where_none_meets
returns-clause-where_none_meets c = none_refuted

pub returns-clause-refuted : goal.returns-clause-refuted
returns-clause-refuted c = refuted_is

pub returns-clause-some_direction : goal.returns-clause-some_direction
returns-clause-some_direction c = some_direction

pub returns-clause-each_meets : goal.returns-clause-each_meets
returns-clause-each_meets c = implied_met

pub returns-clause-where_each_meets : goal.returns-clause-where_each_meets
returns-clause-where_each_meets c = met_implied

pub returns-clause-where_false : goal.returns-clause-where_false
returns-clause-where_false c = false_implies
