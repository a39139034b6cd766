use Rattle.nf_rel.proofs.NormalLaws.{literal_normal, direction_is_normal}
use Rattle.nf_rel.proofs.laws.literals_are_in_normal_form.Goals as goal

pub returns-clause-literal : goal.returns-clause-literal
returns-clause-literal c = literal_normal

pub returns-clause-direction : goal.returns-clause-direction
returns-clause-direction c = direction_is_normal
