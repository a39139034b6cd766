use Rattle.nf_sums.proofs.accumulator.Accumulator.add.Goals as goal

pub returns : goal.returns
returns c = c.add_terms.ensures
