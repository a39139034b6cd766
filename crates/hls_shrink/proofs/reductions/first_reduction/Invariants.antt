use Rattle.std.proofs.Common.{drop}
use Rattle.hls_shrink.specs.InputEntries.{contents_in}
use Rattle.hls_shrink.specs.Shrunk.{ShowDifference}
use Rattle.hls_shrink.proofs.First.{Passed}
use Rattle.hls_shrink.proofs.reductions.first_reduction.Given as goal

abbrev pub invariant-loop-entry : goal.invariant-loop-entry
invariant-loop-entry l = Passed (ShowDifference l.a l.b l.steps) (contents_in l.inputs) l.entries (drop l.entry-index l.entries)
