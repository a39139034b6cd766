use Rattle.std.proofs.Common.{◌≡◌, drop}
use Rattle.fs_pair.specs.PairedOutputs.{output_pairs}
use Rattle.search_tables.specs.Legal.{first_differing}
use Rattle.search_worklist.proofs.outputs.first_differing.Given as goal

abbrev pub invariant-loop-left : goal.invariant-loop-left
invariant-loop-left l = first_differing l.v (output_pairs l.left (drop l.left l.lefts) l.rights) ≡ first_differing l.v (output_pairs 0 l.lefts l.rights)
