use Rattle.nf_arrays.proofs.Values.{quotient_value, remainder_value}
use Rattle.nf_arrays.proofs.laws.divisions_keep_the_meaning.Goals as goal

pub returns-clause-quotient : goal.returns-clause-quotient
returns-clause-quotient c = quotient_value

pub returns-clause-remainder : goal.returns-clause-remainder
returns-clause-remainder c = remainder_value
