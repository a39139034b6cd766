use Rattle.std.proofs.lemmas.Int.{to_z-of_z}
use Rattle.fs_stores.proofs.changes.write_in.Goals as goal

pub put-requires : goal.put-requires
put-requires c = let f = c.ranges.i in simp to_z-of_z (rw c.in-Arr.is at c.requires)
