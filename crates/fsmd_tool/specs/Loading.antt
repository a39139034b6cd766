-- What loading files gives.
use Rattle.std.specs.Prelude.{ℕ}
use Rattle.fs_base.specs.Outside.{FileKnowledge}
use Rattle.fs_base.specs.declared.outside.LoadError.{LoadError}
use Rattle.fs_base.specs.declared.outside.LoadError.TheVariants.{Failed, TooLong, NoMemory}
use Rattle.fs_model.specs.Machines.{Fsmd}
use Rattle.fsmd_replies.specs.declared.answer.Operand.{Operand}
use Rattle.fsmd_replies.specs.declared.answer.Answer.{Answer}
use Rattle.fsmd_replies.specs.declared.answer.Answer.TheVariants.{CannotRead, TooLong as LongFile}
use Rattle.fsmd_answers.specs.declared.refused.Refused.{Refused as Refusal}
use Rattle.fsmd_answers.specs.declared.refused.Refused.TheVariants.{Answered, NoMemory as NoAnswer}
use Rattle.fsmd_answers.specs.Readings.{FileContent, Reading}
use Rattle.fsmd_answers.specs.Refusals.{RefusesPair}
use Rattle.fsmd_answers.specs.Follows.{ComparesPairs, OpensMachine, OpensCertificate}
use Rattle.fsmd_tool.specs.Calls.{Call, known_at_start, FailedToRead, MayBeRead}

-- why the bytes of a file, at most so many, are not read
abbrev pub unread_refusal : Operand → (limit : ℕ) → LoadError → Refusal
unread_refusal file limit Failed = Answered (CannotRead file)
unread_refusal file limit TooLong = Answered (LongFile file limit)
unread_refusal file limit NoMemory = NoAnswer

-- what may be read of a file meets P
pub record MayGive (known : FileKnowledge) (Failed : Type 0) (P : FileContent → Type 0) : Type 0 where
  pub content : FileContent
  pub may : MayBeRead known Failed content
  pub meets : P content

-- what may be read of a file of the call meets P with the answer
abbrev pub GivesContent : Call → Operand → (FileContent → Answer → Type 0) → Answer → Type 0
GivesContent g file P answer = MayGive (known_at_start g file) (FailedToRead g file) (λ content. P content answer)

-- ---- files that are refused one after another
-- The answer follows, where nothing follows from what all of them spell.

-- nothing follows
abbrev pub NothingFollows : (file : ℕ) → Reading → Answer → Type 0
NothingFollows file r answer = ⊥

-- the next file is refused as that of a machine with the same inputs and outputs as this one
abbrev pub RefusesNext : Fsmd → (file : ℕ) → Reading → Answer → Type 0
RefusesNext a file r answer = OpensMachine (λ b. ComparesPairs a b (RefusesPair a b) NothingFollows) file r answer

-- the next two files are refused as those of machines with the same inputs and outputs
abbrev pub RefusesBoth : (file : ℕ) → Reading → Answer → Type 0
RefusesBoth file r answer = OpensMachine RefusesNext file r answer

-- the next two files are refused as those of the link of a chain behind this machine
abbrev pub RefusesLink : Fsmd → (file : ℕ) → Reading → Answer → Type 0
RefusesLink last file r answer =
    OpensMachine (λ next. ComparesPairs last next (RefusesPair last next) (
    OpensCertificate last next (λ nodes. NothingFollows))) file r answer
