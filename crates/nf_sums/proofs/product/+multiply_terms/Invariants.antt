use Rattle.std.proofs.Common.{◌+◌, length}
use Rattle.nf_sums.proofs.product.+multiply_terms.Given as goal

abbrev pub decreases-multiply_terms : goal.decreases-multiply_terms
decreases-multiply_terms l = length l.l.now + length l.r.now
