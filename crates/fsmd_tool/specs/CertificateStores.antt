-- What became of a certificate that was to be stored.
use Rattle.std.specs.Prelude.{◌≡◌, ℕ, List, Option, Some, None}
use Rattle.fsmd_words.specs.AskedWords.{Asked}
use Rattle.fs_base.specs.Outside.{FileKnowledge, FilesTold, Rose, SameHeld, OthersHeld, held_after}
use Rattle.fsmd_replies.specs.declared.answer.Answer.{Answer}
use Rattle.fsmd_replies.specs.Statuses.{certificate_in}
use Rattle.fsmd_replies.specs.AskedFiles.{cert_of}

-- what each name held before and holds now, and how often each had failed to be written before and now
pub record FileChange : Type 0 where
  pub held_before : List ℕ → FileKnowledge
  pub held_now : List ℕ → FileKnowledge
  pub faults_before : List ℕ → ℕ
  pub faults_now : List ℕ → ℕ

-- the same, by what is told of the files before and now
abbrev pub file_change : (before now : FilesTold) → FileChange
file_change before now = record {
  held_before = before.holds;
  held_now = now.holds;
  faults_before = before.store_faults;
  faults_now = now.store_faults;
}

-- each name holds what it held
abbrev pub IsUnchangedStore : FileChange → Type 0
IsUnchangedStore s = SameHeld s.held_before s.held_now

-- this name holds these bytes now, where it is told, and each other what it held
pub record IsStoredUnder (name bytes : List ℕ) (s : FileChange) : Type 0 where
  pub stored : s.held_now name ≡ held_after (s.held_before name) bytes
  pub others : OthersHeld name s.held_before s.held_now

-- this name failed to be written and may hold any bytes, and each other holds what it held
pub record IsUnstored (name : List ℕ) (s : FileChange) : Type 0 where
  pub failed : Rose (s.faults_before name) (s.faults_now name)
  pub others : OthersHeld name s.held_before s.held_now

-- bytes that are to be stored under a name
pub record FileToStore : Type 0 where
  pub name : List ℕ
  pub bytes : List ℕ

abbrev pub file_to_store : (name bytes : List ℕ) → FileToStore
file_to_store name bytes = record { name = name; bytes = bytes }

abbrev pub file_to_store_of : (name bytes : Option (List ℕ)) → Option FileToStore
file_to_store_of None bytes = None
file_to_store_of (Some name) None = None
file_to_store_of (Some name) (Some bytes) = Some (file_to_store name bytes)

-- what is to be stored of an answer to what is asked: its certificate, under the word for it
abbrev pub to_store : Option Asked → Answer → Option FileToStore
to_store o answer = file_to_store_of (cert_of o) (certificate_in answer)

-- the same of an answer, where there is one
abbrev pub to_store_given : Option Asked → Option Answer → Option FileToStore
to_store_given o None = None
to_store_given o (Some answer) = to_store o answer

-- what became of what was to be stored, if anything was
pub data Leaves (e : Option FileToStore) (s : FileChange) : Type 0 where
  LeftAlone : IsUnchangedStore s → Leaves e s
  LeftStored : (x : FileToStore) → e ≡ Some x → IsStoredUnder x.name x.bytes s → Leaves e s
  LeftUnstored : (x : FileToStore) → e ≡ Some x → IsUnstored x.name s → Leaves e s

-- nothing was stored: each name holds what it held, or the name for what was to be stored failed to be written
pub data NotStored (e : Option FileToStore) (s : FileChange) : Type 0 where
  Untouched : IsUnchangedStore s → NotStored e s
  Failed : (x : FileToStore) → e ≡ Some x → IsUnstored x.name s → NotStored e s

-- no file was written, or the one for a certificate failed to be
pub data IsUnwritten (o : Option Asked) (s : FileChange) : Type 0 where
  NoneWritten : IsUnchangedStore s → IsUnwritten o s
  WriteFailed : (name : List ℕ) → cert_of o ≡ Some name → IsUnstored name s → IsUnwritten o s
