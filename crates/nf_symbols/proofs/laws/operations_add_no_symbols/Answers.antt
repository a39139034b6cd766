use Rattle.nf_symbols.proofs.Results.{added_within, subtracted_within, multiplied_within}
use Rattle.nf_symbols.proofs.laws.operations_add_no_symbols.Goals as goal

pub returns-clause-sum : goal.returns-clause-sum
returns-clause-sum c = added_within

pub returns-clause-difference : goal.returns-clause-difference
returns-clause-difference c = subtracted_within

pub returns-clause-product : goal.returns-clause-product
returns-clause-product c = multiplied_within
