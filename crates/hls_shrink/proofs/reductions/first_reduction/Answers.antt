use Rattle.std.proofs.Common.{◌+◌, drop}
use Rattle.std.proofs.lemmas.List.{drop_more}
use Rattle.hls_shrink.specs.InputEntries.{contents_in}
use Rattle.hls_shrink.specs.Shrunk.{ShowDifference}
use Rattle.hls_shrink.proofs.First.{passed_found}
use Rattle.hls_shrink.proofs.reductions.first_reduction.Goals as goal

pub returns-in-Some-clause-some : goal.returns-in-Some-clause-some
returns-in-Some-clause-some c =
    let es = c.args.entries.now in
    let i = c.loop-entry.entry-index in
    let found = rw c.in-Some.is at c.in_ok-small.ensures.some in
    passed_found (ShowDifference c.args.a.now c.args.b.now c.args.steps) (contents_in c.args.inputs.now) es (drop i es)
    (drop (i + 1) es) _ (contents_in c.in-Some.small.inputs) (drop_more es i _ c.loop-entry-test.true) found c.loop-entry.invariant
