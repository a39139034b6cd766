use Rattle.std.proofs.lemmas.Int.{to_z-of_z}
use Rattle.fs_stores.proofs.changes.make_room_in.Goals as goal

pub returns-in-Ok-clause-room : goal.returns-in-Ok-clause-room
returns-in-Ok-clause-room c = let f = c.ranges.i in simp to_z-of_z at c.in-Ok.ensures.room
