-- Sinks in memory.
use Rattle.std.specs.Prelude.{ℕ, ◌-◌, List, [], ◌++◌, length, take, min, max, slice_index_or, Result, Ok, Err}
use Rattle.fs_base.specs.Memory.{one_more}

-- the bytes taken so far, and how many more have room
pub record RoomySink : Type 0 where
  pub bytes : List ℕ
  pub room : ℕ

-- room is made for at least so many bytes more
abbrev pub with_room : RoomySink → ℕ → RoomySink
with_room sink count = record sink { room = max sink.room count }

-- the room is lower by the bytes that were taken
abbrev pub with_bytes : RoomySink → List ℕ → RoomySink
with_bytes sink bytes = record { bytes = sink.bytes ++ bytes; room = sink.room - length bytes }

-- the bytes taken so far, the most that each call takes, the number of the next call, the room, and the failures so far
pub record ScriptedSink : Type 0 where
  pub bytes : List ℕ
  pub takes : List ℕ
  pub next_call : ℕ
  pub room : ℕ
  pub failures : ℕ

-- no call was made, and no room
abbrev pub no_puts : List ℕ → ScriptedSink
no_puts takes = record { bytes = []; takes = takes; next_call = 0; room = 0; failures = 0 }

-- room is made for at least so many bytes more
abbrev pub with_room_scripted : ScriptedSink → ℕ → ScriptedSink
with_room_scripted sink count = record sink { room = max sink.room count }

-- how many bytes the next call takes of so many: past the list all, and never more than have room
abbrev pub taken_next : ScriptedSink → ℕ → ℕ
taken_next sink count = min (min count (slice_index_or sink.takes sink.next_call count)) sink.room

-- a call took these bytes
abbrev pub after_taking : ScriptedSink → List ℕ → ScriptedSink
after_taking sink bytes =
    record sink { bytes = sink.bytes ++ bytes; next_call = one_more sink.next_call; room = sink.room - length bytes }

-- a call failed
abbrev pub after_failed_put : ScriptedSink → ScriptedSink
after_failed_put sink = record sink { next_call = one_more sink.next_call; failures = one_more sink.failures }

-- what a put of these bytes leaves
abbrev pub after_put : {E : Type 0} → ScriptedSink → List ℕ → Result ℕ E → ScriptedSink
after_put sink bytes (Ok taken) = after_taking sink (take taken bytes)
after_put sink bytes (Err e) = after_failed_put sink
