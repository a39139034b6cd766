use Rattle.nf_sums.proofs.sums.mul.Goals as goal

pub returns : goal.returns
returns c = c.narrow_product.ensures
