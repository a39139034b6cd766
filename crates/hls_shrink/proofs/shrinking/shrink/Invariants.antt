use Rattle.std.proofs.Common.{List}
use Rattle.fs_model.specs.Runs.{Content}
use Rattle.hls_shrink.specs.InputEntries.{contents_in, AreEntries}
use Rattle.hls_shrink.specs.Shrunk.{ShowDifference, IsSmall, EndsIn}
use Rattle.hls_shrink.proofs.Lowered.{size}
use Rattle.hls_shrink.proofs.shrinking.shrink.Given as goal

-- where the chain from here ends, that from the given inputs ends
abbrev pub invariant-loop-list : goal.invariant-loop-list
invariant-loop-list l = record {
  listed : AreEntries 0 (contents_in l.small.inputs) l.list.items;
  small : IsSmall l.a l.b l.steps l.small;
  onward : (end : List Content) → EndsIn (ShowDifference l.a l.b l.steps) (contents_in l.small.inputs) end
      → EndsIn (ShowDifference l.a l.b l.steps) (contents_in l.inputs) end;
}

abbrev pub decreases-loop-list : goal.decreases-loop-list
decreases-loop-list l = size l.list.items
