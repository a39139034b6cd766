-- How the program ends, by the words that it is given.
use Rattle.std.specs.Prelude.{◌≡◌, ◌≤◌, ◌⊎◌, ℕ, List, None, drop}
use Rattle.fsmd_words.specs.AskedWords.{asked_of}
use Rattle.fs_base.specs.Outside.{FilesTold, SinkTold, Unknown, NoneFell}
use Rattle.fsmd_replies.specs.declared.answer.Status.{Status}
use Rattle.fsmd_replies.specs.declared.answer.Status.TheVariants.{Fine, Differ, Undecided, NoMemory, Fault}
use Rattle.fsmd_tool.specs.Asking.{AskToCheck, AskToGenerate, AskToCompare, AskToVerify, AskToCompile, AskToSchedule, AskToBind}
use Rattle.fsmd_tool.specs.Asking.{AskToShrink, AskToChain}
use Rattle.fsmd_tool.specs.Calls.{Call, LoadsNamed}
use Rattle.fsmd_tool.specs.SinkReplies.{Put, put_between}
use Rattle.fsmd_tool.specs.Correct.{Outcome}
use Rattle.fsmd_tool.specs.Equivalent.{AreEquivalent, AreGeneratedEquivalent, AreVerified, AreChained}
use Rattle.fsmd_tool.specs.AlikeCalls.{AnswersPair, TellsOfAlike}
use Rattle.fsmd_tool.specs.Clauses.{SaysSame, SaysDiffer, SaysUndecided, IsChecked, IsCompiled, IsInRows, IsInRegisters}
use Rattle.fsmd_tool.specs.Clauses.{KeepsFiles, HasCause, IsShrunk, IsChained}

-- all that `drive` promises of a call
pub record IsDriven (g : Call) (p : Put) : Type 0 where
  pub outcome : Outcome g p
  pub same_behaviour : p.status ≡ Fine → AskToCheck g.asked → AreEquivalent g p
  pub generated_same : p.status ≡ Fine → AskToGenerate g.asked → AreGeneratedEquivalent g p
  pub verified_same : p.status ≡ Fine → AskToVerify g.asked → AreVerified g p
  pub chained_same : p.status ≡ Fine → AskToChain g.asked → AreChained g p
  pub equivalent : p.status ≡ Fine → AskToCompare g.asked → SaysSame g p
  pub differ : p.status ≡ Differ → AskToCompare g.asked → SaysDiffer g p
  pub undecided : p.status ≡ Undecided → AskToCompare g.asked → SaysUndecided g p
  pub alike : AnswersPair p.status → AskToCompare g.asked → TellsOfAlike g p
  pub checked : p.status ≡ Fine → AskToVerify g.asked → IsChecked g p
  pub compiled : p.status ≡ Fine → AskToCompile g.asked → IsCompiled g p
  pub in_rows : p.status ≡ Fine → AskToSchedule g.asked → IsInRows g p
  pub in_registers : p.status ≡ Fine → AskToBind g.asked → IsInRegisters g p
  pub shrunk : p.status ≡ Differ → AskToShrink g.asked → IsShrunk g p
  pub chained : p.status ≡ Fine → AskToChain g.asked → IsChained g p
  pub fault : p.status ≡ Fault → HasCause g p
  pub counts : NoneFell g.before.faults g.now.faults
  pub store_counts : NoneFell g.before.store_faults g.now.store_faults
  pub sink_counts : p.faults_before ≤ p.faults_now
  pub unchanged : KeepsFiles g
  pub loads : LoadsNamed g

-- of files of the system nothing is told but how often calls of theirs failed
abbrev pub system_files : (failures : ℕ) → FilesTold
system_files failures = record {
  holds = λ name. Unknown;
  faults = λ name. failures;
  store_faults = λ name. failures;
  loaded = None;
}

-- and so of its output
abbrev pub system_output : (failures : ℕ) → SinkTold
system_output failures = record { got = None; faults = failures; spare = None }

-- the call was one of files of the system, and of its output, none of which had failed before
pub record IsOfSystem (g : Call) (p : Put) : Type 0 where
  pub failures : ℕ
  pub output_failures : ℕ
  pub before : g.before ≡ system_files 0
  pub now : g.now ≡ system_files failures
  pub put : p ≡ put_between p.status (system_output 0) (system_output output_failures)

-- the program ended so: as `drive` does over the system for words of which the first is dropped, or there were none
pub data EndsSo (status : Status) : Type 0 where
  WithWords : (words : List (List ℕ)) (g : Call) (p : Put) → g.asked ≡ asked_of (drop 1 words) → p.status ≡ status
      → IsOfSystem g p → IsDriven g p → EndsSo status
  WithoutWords : (status ≡ NoMemory) ⊎ (status ≡ Fault) → EndsSo status
