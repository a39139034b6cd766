-- How calls end where nothing failed.
use Rattle.std.specs.Prelude.{◌≡◌, ℕ, Bool, true, false, List, Some}
use Rattle.fs_base.specs.Outside.{Rose}
use Rattle.fsmd_replies.specs.declared.answer.Status.{Status}
use Rattle.fsmd_replies.specs.declared.answer.Status.TheVariants.{Fine, Differ, Undecided, NoMemory}
use Rattle.fsmd_replies.specs.declared.answer.Answer.{Answer}
use Rattle.fsmd_replies.specs.AskedFiles.{cert_of}
use Rattle.fsmd_replies.specs.Replies.{reply}
use Rattle.fsmd_replies.specs.Statuses.{status_of}
use Rattle.fsmd_tool.specs.Calls.{Call}
use Rattle.fsmd_tool.specs.SinkReplies.{Put, IsWhole}
use Rattle.fsmd_tool.specs.Correct.{IsCorrectAnswer, IsStarved}

-- neither the sink failed nor the store of the certificate
pub record NothingFailed (g : Call) (p : Put) : Type 0 where
  pub put : ¬ Rose p.faults_before p.faults_now
  pub stored : (name : List ℕ) → cert_of g.asked ≡ Some name → ¬ Rose (g.before.store_faults name) (g.now.store_faults name)

-- the statuses of what two machines get, and of no memory
abbrev pub is_of_comparison : Status → Bool
is_of_comparison Fine = true
is_of_comparison Differ = true
is_of_comparison Undecided = true
is_of_comparison NoMemory = true
is_of_comparison _ = false

-- an answer that is correct and meets P was put whole, with its status; or there was no memory
pub data EndsBy (P : Answer → Type 0) (g : Call) (p : Put) : Type 0 where
  WithAnswer : (answer : Answer) → IsCorrectAnswer g answer → P answer
      → IsWhole (reply answer g.asked) (status_of answer) p → EndsBy P g p
  OutOfMemory : IsStarved g p → EndsBy P g p
