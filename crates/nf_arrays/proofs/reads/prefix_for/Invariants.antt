use Rattle.std.proofs.Common.{length}
use Rattle.nf_trees.specs.View.{polynomial_in}
use Rattle.nf_arrays.proofs.Stopping.{ArePassed}
use Rattle.nf_arrays.proofs.reads.prefix_for.Given as goal

abbrev pub invariant-back : goal.invariant-back
invariant-back l = ArePassed (polynomial_in l.i) l.writes l.rest

abbrev pub decreases-back : goal.decreases-back
decreases-back l = length l.rest
