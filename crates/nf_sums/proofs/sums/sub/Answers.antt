use Rattle.nf_sums.proofs.sums.sub.Goals as goal

pub returns : goal.returns
returns c = c.narrow_difference.ensures
