use Rattle.nf_arrays.proofs.NewAtoms.{number_sum, number_small}
use Rattle.nf_arrays.proofs.division.number_of.Goals as goal

pub returns-clause-number : goal.returns-clause-number
returns-clause-number c = number_sum c.args.p.now c.constant_of.result c.size-size.ensures.normal c.constant_of.ensures

pub returns-clause-small : goal.returns-clause-small
returns-clause-small c = number_small c.args.p.now c.constant_of.result c.size-size.ensures.normal c.constant_of.ensures
