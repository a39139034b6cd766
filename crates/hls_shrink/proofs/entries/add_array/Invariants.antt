use Rattle.std.proofs.Common.{◌≡◌, ◌++◌, map, drop}
use Rattle.hls_shrink.specs.InputEntries.{at_input}
use Rattle.hls_shrink.proofs.entries.add_array.Given as goal

abbrev pub invariant-loop-index : goal.invariant-loop-index
invariant-loop-index l = l.list.items ++ map (at_input l.input) (drop l.index-index l.listing) ≡ l.initial.list.items ++ map (at_input l.input) l.listing
