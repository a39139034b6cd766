use Rattle.nf_substitution.proofs.Values.{substituted_value, array_value, list_value}
use Rattle.nf_substitution.proofs.laws.substitution_keeps_the_meaning.Goals as goal

pub returns-clause-numbers : goal.returns-clause-numbers
returns-clause-numbers c = substituted_value

pub returns-clause-arrays : goal.returns-clause-arrays
returns-clause-arrays c = array_value

pub returns-clause-lists : goal.returns-clause-lists
returns-clause-lists c = list_value
