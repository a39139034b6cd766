use Rattle.nf_sums.proofs.sums.add.Goals as goal

pub returns : goal.returns
returns c = c.narrow_sum.ensures
