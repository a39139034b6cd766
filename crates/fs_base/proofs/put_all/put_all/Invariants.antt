use Rattle.std.proofs.Common.{◌≡◌, ◌≤◌, ◌-◌, length, take}
use Rattle.fs_base.specs.Outside.{got_after, room_after}
use Rattle.fs_base.proofs.put_all.put_all.Given as goal

abbrev pub invariant-loop-sent : goal.invariant-loop-sent
invariant-loop-sent g l = record {
  within : l.sent ≤ length l.bytes;
  got : (g.S.Sink.told l.sink).got ≡ got_after (g.S.Sink.told l.initial.sink).got (take l.sent l.bytes);
  spare : (g.S.Sink.told l.sink).spare ≡ room_after (g.S.Sink.told l.initial.sink).spare l.sent;
  counts : (g.S.Sink.told l.initial.sink).faults ≤ (g.S.Sink.told l.sink).faults;
}

abbrev pub decreases-loop-sent : goal.decreases-loop-sent
decreases-loop-sent g l = length l.initial.bytes - l.sent
