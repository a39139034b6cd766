-- What files and sinks promise, and when a fault may come.
use Rattle.std.specs.Prelude.{◌≡◌, ◌≢◌, ℕ, ◌+◌, ◌-◌, ◌^◌, ◌<◌, ◌≤◌, ◌⊎◌, List, ◌++◌, length, Option, Some, None}
use Rattle.fs_base.specs.declared.outside.LoadError.{LoadError}
use Rattle.fs_base.specs.declared.outside.LoadError.TheVariants.{Failed, TooLong, NoMemory}
use Rattle.fs_base.specs.declared.outside.StoreError.{StoreError}
use Rattle.fs_base.specs.declared.outside.StoreError.TheVariants.{Failed as NotStored, NoMemory as NoRoom}

-- what is told of a name: nothing is known, no file stands there, or a file of these bytes
pub data FileKnowledge : Type 0 where
  Unknown : FileKnowledge
  NoFile : FileKnowledge
  Bytes : List ℕ → FileKnowledge

-- what is told of files: what stands under each name, how often each name failed to be read, and to be written, and the names
-- that were loaded so far, in order
pub record FilesTold : Type 0 where
  pub holds : List ℕ → FileKnowledge
  pub faults : List ℕ → ℕ
  pub store_faults : List ℕ → ℕ
  pub loaded : Option (List (List ℕ))

-- what is told of a sink: the bytes that it got, how often it failed, and how many bytes more have room
pub record SinkTold : Type 0 where
  pub got : Option (List ℕ)
  pub faults : ℕ
  pub spare : Option ℕ

-- the same of all else, where these names were loaded so far
abbrev pub with_loaded : FilesTold → Option (List (List ℕ)) → FilesTold
with_loaded told names = record told { loaded = names }

-- the last value of a count
abbrev pub last_count : ℕ
last_count = 2 ^ 64 - 1

-- a count rose, or stands at its last value
abbrev pub Rose : ℕ → ℕ → Type 0
Rose old new = (old < new) ⊎ (new ≡ last_count)

-- no name's count fell
abbrev pub NoneFell : (List ℕ → ℕ) → (List ℕ → ℕ) → Type 0
NoneFell old new = (name : List ℕ) → old name ≤ new name

-- every name's count stayed
abbrev pub SameCounts : (List ℕ → ℕ) → (List ℕ → ℕ) → Type 0
SameCounts old new = (name : List ℕ) → new name ≡ old name

-- every name holds what it held
abbrev pub SameHeld : (List ℕ → FileKnowledge) → (List ℕ → FileKnowledge) → Type 0
SameHeld old new = (name : List ℕ) → new name ≡ old name

-- every other name holds what it held
abbrev pub OthersHeld : List ℕ → (List ℕ → FileKnowledge) → (List ℕ → FileKnowledge) → Type 0
OthersHeld name old new = (other : List ℕ) → other ≢ name → new other ≡ old other

-- where it is told what a name holds, it is these bytes
abbrev pub AreHeld : FileKnowledge → List ℕ → Type 0
AreHeld Unknown bytes = Unit {0}
AreHeld NoFile bytes = ⊥
AreHeld (Bytes held) bytes = bytes ≡ held

-- where it is told what a name holds, it is more than so many bytes
abbrev pub MoreAreHeld : FileKnowledge → ℕ → Type 0
MoreAreHeld Unknown limit = Unit {0}
MoreAreHeld NoFile limit = ⊥
MoreAreHeld (Bytes held) limit = limit < length held

-- if the load failed, then P
abbrev pub WhereFailed : Type 0 → LoadError → Type 0
WhereFailed P Failed = P
WhereFailed P TooLong = Unit {0}
WhereFailed P NoMemory = Unit {0}

-- if the file was too long, then P
abbrev pub WhereTooLong : Type 0 → LoadError → Type 0
WhereTooLong P Failed = Unit {0}
WhereTooLong P TooLong = P
WhereTooLong P NoMemory = Unit {0}

-- if a load had no memory, then P
abbrev pub WhereNoMemory : Type 0 → LoadError → Type 0
WhereNoMemory P Failed = Unit {0}
WhereNoMemory P TooLong = Unit {0}
WhereNoMemory P NoMemory = P

-- what a name holds once bytes were stored under it: these bytes, where it is told
abbrev pub held_after : FileKnowledge → List ℕ → FileKnowledge
held_after Unknown bytes = Unknown
held_after NoFile bytes = Bytes bytes
held_after (Bytes held) bytes = Bytes bytes

-- where it is told which names were loaded so far, they are those of before, and behind them these, in order. What was not told
-- is not told later
abbrev pub AreLoaded : List (List ℕ) → (old new : Option (List (List ℕ))) → Type 0
AreLoaded names old None = Unit {0}
AreLoaded names None (Some new) = ⊥
AreLoaded names (Some old) (Some new) = new ≡ old ++ names

-- if the store failed, then P
abbrev pub WhereNotStored : Type 0 → StoreError → Type 0
WhereNotStored P NotStored = P
WhereNotStored P NoRoom = Unit {0}

-- if a store had no memory, then P
abbrev pub WhereNoRoom : Type 0 → StoreError → Type 0
WhereNoRoom P NotStored = Unit {0}
WhereNoRoom P NoRoom = P

-- where it is told what a reader has left, it lost at most so many bytes
abbrev pub LosesAtMost : ℕ → Option (List ℕ) → Option (List ℕ) → Type 0
LosesAtMost most None new = Unit {0}
LosesAtMost most (Some old) None = ⊥
LosesAtMost most (Some old) (Some new) = length old ≤ length new + most

-- what a sink got once it took more bytes, where it is told
abbrev pub got_after : Option (List ℕ) → List ℕ → Option (List ℕ)
got_after None bytes = None
got_after (Some got) bytes = Some (got ++ bytes)

-- the room that is left once so many bytes were taken, where it is told
abbrev pub room_after : Option ℕ → ℕ → Option ℕ
room_after None taken = None
room_after (Some spare) taken = Some (spare - taken)

-- so many bytes have room, where it is told
abbrev pub HasRoom : Option ℕ → ℕ → Type 0
HasRoom None count = Unit {0}
HasRoom (Some spare) count = count ≤ spare
