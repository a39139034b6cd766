use Rattle.fs_stores.proofs.Slots.{within_array, within_list, stays_ready}
use Rattle.fs_stores.proofs.changes.make_room_for.Goals as goal

pub returns-in-Put-clause-stays : goal.returns-in-Put-clause-stays
returns-in-Put-clause-stays c =
    stays_ready c.args.values.now c.in-Put.x c.index-values-x.result c.make_room_in.new.value
    (within_array c.args.values.now c.in-Put.x (rw c.in-Put.is at c.requires)) c.make_room_in.ensures.keeps c.make_room_in.ensures.same

pub returns-in-Append-clause-stays : goal.returns-in-Append-clause-stays
returns-in-Append-clause-stays c =
    stays_ready c.args.values.now c.in-Append.x c.index-values-x-in-Append.result c.make_list_room.new.value
    (within_list c.args.values.now c.in-Append.x (rw c.in-Append.is at c.requires)) c.make_list_room.ensures.keeps c.make_list_room.ensures.same
