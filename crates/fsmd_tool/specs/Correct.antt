-- Which answer is correct, and how a call ends.
use Rattle.std.specs.Prelude.{◌≡◌, ℕ, List, length, Option, Some, None}
use Rattle.fsmd_words.specs.AskedWords.{Asked}
use Rattle.fsmd_replies.specs.declared.answer.Status.{Status}
use Rattle.fsmd_replies.specs.declared.answer.Status.TheVariants.{NoMemory, Fault}
use Rattle.fsmd_replies.specs.declared.answer.Answer.{Answer}
use Rattle.fsmd_replies.specs.Statuses.{status_of}
use Rattle.fsmd_replies.specs.Replies.{reply, unstored_reply}
use Rattle.fsmd_answers.specs.Follows.{FollowsFrom}
use Rattle.fsmd_tool.specs.Calls.{Call, LoadsFrom, IsCorrectFrom}
use Rattle.fsmd_tool.specs.SinkReplies.{Put, IsPut}
use Rattle.fsmd_tool.specs.CertificateStores.{FileChange, file_change, IsUnchangedStore, IsStoredUnder, IsUnstored, FileToStore}
use Rattle.fsmd_tool.specs.CertificateStores.{to_store, IsUnwritten}

-- the answer follows from what may have been read of the files
abbrev pub IsCorrectAnswer : Call → Answer → Type 0
IsCorrectAnswer g answer = IsCorrectFrom (FollowsFrom g.asked) 0 g answer

-- what was to be stored was stored, if anything was, and then the reply was put with its status, whole or cut by a sink that
-- failed; or it could not be stored, and this was put
pub data IsDone (e : Option FileToStore) (reply : List ℕ) (meant : Status) (s : FileChange) (p : Put) : Type 0 where
  Kept : e ≡ None → IsUnchangedStore s → IsPut reply meant p → IsDone e reply meant s p
  Stored : (x : FileToStore) → e ≡ Some x → IsStoredUnder x.name x.bytes s → IsPut reply meant p → IsDone e reply meant s p
  Unstored : (x : FileToStore) → e ≡ Some x → IsUnstored x.name s → IsPut (unstored_reply x.name) Fault p
      → IsDone e reply meant s p

-- the same of an answer to what is asked: its certificate, its reply and its status
abbrev pub IsDoneFor : Option Asked → Answer → FileChange → Put → Type 0
IsDoneFor o answer s p = IsDone (to_store o answer) (reply answer o) (status_of answer) s p

-- there is an answer, and this was done for it
pub record IsDoneForGiven (o : Option Asked) (given : Option Answer) (s : FileChange) (p : Put) : Type 0 where
  pub answer : Answer
  pub is : given ≡ Some answer
  pub done : IsDoneFor o answer s p

-- a correct answer was put, and its certificate stored where that is asked. Just the files that were opened for it were
-- loaded, in order: none behind them, and no other
pub record Answered (g : Call) (p : Put) : Type 0 where
  pub answer : Answer
  pub correct : IsCorrectAnswer g answer
  pub loads : LoadsFrom g.asked 0 (length correct.reading) g.before g.now
  pub done : IsDoneFor g.asked answer (file_change g.before g.now) p

-- there was no memory: nothing was put, and nothing was stored
pub record IsStarved (g : Call) (p : Put) : Type 0 where
  pub status : p.status ≡ NoMemory
  pub got : p.got_now ≡ p.got_before
  pub files : IsUnwritten g.asked (file_change g.before g.now)

-- how a call ends
pub data Outcome (g : Call) (p : Put) : Type 0 where
  Answers : Answered g p → Outcome g p
  Starves : IsStarved g p → Outcome g p
