-- Files in memory whose calls fail by a list that is given ahead.
use Rattle.std.specs.Prelude.{◌≡◌, ℕ, ◌+◌, ◌==◌, ◌⊎◌, List, [], ◌∷◌, Bool, true, min, None, Result, Ok, Err}
use Rattle.std.specs.List.{list_any}
use Rattle.fs_base.specs.Outside.{last_count}
use Rattle.fs_base.specs.Stored.{newest}
use Rattle.fs_base.specs.declared.outside.LoadError.{LoadError}
use Rattle.fs_base.specs.declared.outside.LoadError.TheVariants.{Failed, TooLong, NoMemory}
use Rattle.fs_base.specs.declared.outside.StoreError.{StoreError}
use Rattle.fs_base.specs.declared.outside.StoreError.TheVariants.{Failed as NotStored, NoMemory as NoRoom}

-- the files, the newest first, the numbers of the calls that fail, the number of the next call, and the failures so far
pub record ScriptedFiles : Type 0 where
  pub files : List (List ℕ × List ℕ)
  pub fails : List ℕ
  pub next_call : ℕ
  pub failures : ℕ

-- one more, up to the last value of a count
abbrev pub one_more : ℕ → ℕ
one_more count = min (count + 1) last_count

-- no call was made, and no file is held
abbrev pub no_calls : List ℕ → ScriptedFiles
no_calls fails = record { files = []; fails = fails; next_call = 0; failures = 0 }

-- the next call is in the list
abbrev pub fails_next : ScriptedFiles → Bool
fails_next held = list_any (λ call. call == held.next_call) held.fails

-- a call was made
abbrev pub after_call : ScriptedFiles → ScriptedFiles
after_call held = record held { next_call = one_more held.next_call }

-- a call was made and failed
abbrev pub after_failure : ScriptedFiles → ScriptedFiles
after_failure held = record held { next_call = one_more held.next_call; failures = one_more held.failures }

-- one more file, which hides an older one of its name
abbrev pub with_file : ScriptedFiles → List ℕ → List ℕ → ScriptedFiles
with_file held name bytes = record held { files = (name, bytes) ∷ held.files }

-- a load of that name cannot succeed: the call is to fail, or there is no file
abbrev pub CannotLoad : ScriptedFiles → List ℕ → Type 0
CannotLoad held name = (fails_next held ≡ true) ⊎ (newest held.files name ≡ None)

-- what a load leaves: no change where it had no memory
abbrev pub after_load : {Bytes : Type 0} → ScriptedFiles → Result Bytes LoadError → ScriptedFiles
after_load held (Ok bytes) = after_call held
after_load held (Err Failed) = after_failure held
after_load held (Err TooLong) = after_call held
after_load held (Err NoMemory) = held

-- what a store of these bytes leaves: no change where it had no memory
abbrev pub after_store : {Done : Type 0} → ScriptedFiles → List ℕ → List ℕ → Result Done StoreError → ScriptedFiles
after_store held name bytes (Ok done) = after_call (with_file held name bytes)
after_store held name bytes (Err NotStored) = after_failure held
after_store held name bytes (Err NoRoom) = held
