use Rattle.std.proofs.Common.{◌+◌, length}
use Rattle.nf_sums.proofs.Moves.{Moved}
use Rattle.nf_sums.proofs.owned.merged_owned.Given as goal

abbrev pub invariant-merge : goal.invariant-merge
invariant-merge l = Moved l.fn.l.items l.fn.r.items l.out.items l.left.items l.right.items

abbrev pub decreases-merge : goal.decreases-merge
decreases-merge l = length l.left.items + length l.right.items
