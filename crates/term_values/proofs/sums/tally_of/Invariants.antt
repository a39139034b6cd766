use Rattle.std.proofs.Common.{length}
use Rattle.term_values.specs.SumTallies.{HasTally}
use Rattle.term_values.proofs.sums.tally_of.Given as goal

abbrev pub invariant-loop-after : goal.invariant-loop-after
invariant-loop-after g l = HasTally (g.N.Names.find l.names) l.bytes l.rest l.tally

abbrev pub decreases-loop-after : goal.decreases-loop-after
decreases-loop-after g l = length l.rest
