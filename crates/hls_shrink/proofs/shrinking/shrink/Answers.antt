use Rattle.std.proofs.Common.{subst}
use Rattle.hls_shrink.specs.InputEntries.{contents_in}
use Rattle.hls_shrink.specs.Reductions.{reductions}
use Rattle.hls_shrink.specs.Shrunk.{ShowDifference, IsSmall, IsFirst, NoneHas, IsFirstReduction}
use Rattle.hls_shrink.proofs.Unique.{ends_here, ends_further, smaller}
use Rattle.hls_shrink.proofs.shrinking.shrink.Goals as goal

pub loop-list-smaller : goal.loop-list-smaller
loop-list-smaller c =
    let shows = ShowDifference c.args.a.now c.args.b.now c.args.steps in
    let cs = contents_in c.loop-list.small.inputs in
    let next = contents_in c.in-Some.next.inputs in
    let found : IsFirst shows (reductions cs c.as_slice.result.now) next = rw c.in-Some.is at c.in_ok-next.ensures.some in
    smaller shows cs next c.loop-list.list.items c.in_ok-list-2.list.items c.loop-list.invariant.listed
    (subst (λ es. IsFirst shows (reductions cs es) next) c.as_slice.ensures.value found) c.in_ok-list-2.ensures

pub loop-list-preserved : goal.loop-list-preserved
loop-list-preserved c =
    let shows = ShowDifference c.args.a.now c.args.b.now c.args.steps in
    let cs = contents_in c.loop-list.small.inputs in
    let next = contents_in c.in-Some.next.inputs in
    let found : IsFirst shows (reductions cs c.as_slice.result.now) next = rw c.in-Some.is at c.in_ok-next.ensures.some in
    let small : IsSmall c.args.a.now c.args.b.now c.args.steps c.in-Some.next = rw c.in-Some.is at c.in_ok-next.ensures.small in
    let step : IsFirstReduction shows cs next = record {
      entries = c.loop-list.list.items;
      are_entries = c.loop-list.invariant.listed;
      first = subst (λ es. IsFirst shows (reductions cs es) next) c.as_slice.ensures.value found;
    } in
    record {
      listed = c.in_ok-list-2.ensures;
      small = small;
      onward = λ end h. c.loop-list.invariant.onward end (ends_further shows cs next end step h);
    }

pub returns-clause-least : goal.returns-clause-least
returns-clause-least c =
    let shows = ShowDifference c.args.a.now c.args.b.now c.args.steps in
    let cs = contents_in c.loop-list.small.inputs in
    record {
      entries = c.loop-list.list.items;
      are_entries = c.loop-list.invariant.listed;
      none = subst (λ es. NoneHas shows (reductions cs es)) c.as_slice.ensures.value (c.in_ok-next.ensures.none c.in_default.is);
    }

pub returns-clause-end : goal.returns-clause-end
returns-clause-end c =
    let shows = ShowDifference c.args.a.now c.args.b.now c.args.steps in
    let cs = contents_in c.loop-list.small.inputs in
    c.loop-list.invariant.onward cs (ends_here shows cs (returns-clause-least c))
