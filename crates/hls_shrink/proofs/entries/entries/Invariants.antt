use Rattle.hls_shrink.specs.InputEntries.{contents_in}
use Rattle.hls_shrink.proofs.Listed.{Awaits}
use Rattle.hls_shrink.proofs.entries.entries.Given as goal

abbrev pub invariant-loop-k : goal.invariant-loop-k
invariant-loop-k l = Awaits (contents_in l.inputs) l.k l.list.items
