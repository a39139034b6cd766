use Rattle.std.proofs.Common.{◌≡◌, ◌++◌, map, drop}
use Rattle.nf_trees.specs.View.{write_in}
use Rattle.nf_arrays.proofs.copies.copy_writes.Given as goal

abbrev pub invariant-loop-index : goal.invariant-loop-index
invariant-loop-index l = map write_in l.out.items ++ map write_in (drop l.index-index l.writes) ≡ map write_in l.writes
