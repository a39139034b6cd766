use Rattle.std.proofs.Common.{sym, ◌∙◌, ap}
use Rattle.std.specs.Option.{is_some}
use Rattle.std.proofs.lemmas.Int.{to_z-of_z}
use Rattle.fs_stores.proofs.values.Entries.make_room.Goals as goal

pub returns-then-contains_key-clause-room : goal.returns-then-contains_key-clause-room
returns-then-contains_key-clause-room c = let f = c.ranges.i in simp to_z-of_z at (sym c.contains_key.ensures ∙ c.if-contains_key.true)

pub returns-in-Ok-clause-room : goal.returns-in-Ok-clause-room
returns-in-Ok-clause-room c = let f = c.ranges.i in simp to_z-of_z at (ap is_some c.in-Ok.ensures.updates.1)
