-- What is known of the files of a call, and what may have been read of them.
use Rattle.std.specs.Prelude.{ℕ, zero, suc, ◌+◌, ◌≤◌, List, [], ◌∷◌, length, Option, Result, Ok, Err}
use Rattle.fsmd_words.specs.AskedWords.{Asked}
use Rattle.fs_base.specs.Outside.{FileKnowledge, FilesTold, Rose, NoneFell, SameHeld, AreHeld, AreLoaded}
use Rattle.fsmd_replies.specs.declared.answer.Operand.{Operand}
use Rattle.fsmd_replies.specs.declared.answer.Answer.{Answer}
use Rattle.fsmd_answers.specs.declared.refused.Refused.{Refused as Refusal}
use Rattle.fsmd_replies.specs.AskedFiles.{operand, files_of, file_word_of}
use Rattle.fsmd_answers.specs.Readings.{FileContent, Readable, Unreadable, Reading}
use Rattle.fsmd_answers.specs.Refusing.{WhereAnswered}

-- what the words of a call ask, and what is told of the files before it and at its end
pub record Call : Type 0 where
  pub asked : Option Asked
  pub before : FilesTold
  pub now : FilesTold

-- the call that asks this, by what is told of the files before it and now
abbrev pub call : Option Asked → (before now : FilesTold) → Call
call asked before now = record { asked = asked; before = before; now = now }

-- the files were only read: no count of faults fell, and each name holds what it held
pub record OnlyRead (before now : FilesTold) : Type 0 where
  pub counts : NoneFell before.faults now.faults
  pub store_counts : NoneFell before.store_faults now.store_faults
  pub unchanged : SameHeld before.holds now.holds

-- the words that name so many files from a number on, in the order of work
abbrev pub file_words : Option Asked → (file count : ℕ) → List (List ℕ)
file_words o file zero = []
file_words o file (suc count) = file_word_of o (operand file) ∷ file_words o (file + 1) count

-- so many files from a number on were loaded, in the order of work, and no other, where it is told
pub record LoadsFrom (o : Option Asked) (file count : ℕ) (before now : FilesTold) : Type 0 where
  pub loaded : AreLoaded (file_words o file count) before.loaded now.loaded

-- of so many files from a number on the first were loaded, in the order of work, and no other
pub record LoadsAtMost (o : Option Asked) (file most : ℕ) (before now : FilesTold) : Type 0 where
  pub count : ℕ
  pub within : count ≤ most
  pub loads : LoadsFrom o file count before now

-- of the files that the words name the first were loaded, in the order of work, and no other
abbrev pub LoadsNamed : Call → Type 0
LoadsNamed g = LoadsAtMost g.asked 0 (length (files_of g.asked)) g.before g.now

-- what is known of a file at the start of the call
abbrev pub known_at_start : Call → Operand → FileKnowledge
known_at_start g file = g.before.holds (file_word_of g.asked file)

-- a file of the call failed to be read
abbrev pub FailedToRead : Call → Operand → Type 0
FailedToRead g file = Rose (g.before.faults (file_word_of g.asked file)) (g.now.faults (file_word_of g.asked file))

-- what may be read of a file, of which this is known; Failed says that it failed to be read
abbrev pub MayBeRead : FileKnowledge → (Failed : Type 0) → FileContent → Type 0
MayBeRead known Failed (Readable bytes) = AreHeld known bytes
MayBeRead known Failed Unreadable = Failed

-- bytes that a file may hold, by what is known of it, meet P
pub record MayHold (known : FileKnowledge) (P : List ℕ → Type 0) : Type 0 where
  pub bytes : List ℕ
  pub may : AreHeld known bytes
  pub meet : P bytes

-- each file from a number on that was opened may be read so, by what is known of it alone
abbrev pub MayRead : Call → (file : ℕ) → Reading → Type 0
MayRead g file [] = Unit {0}
MayRead g file (content ∷ rest) =
    MayBeRead (known_at_start g (operand file)) (FailedToRead g (operand file)) content × MayRead g (file + 1) rest

-- the answer follows, by P, from what may have been read of the files from a number on
pub record IsCorrectFrom (P : (file : ℕ) → Reading → Answer → Type 0) (file : ℕ) (g : Call) (answer : Answer) : Type 0 where
  pub reading : Reading
  pub may_be_read : MayRead g file reading
  pub follows : P file reading answer

-- the same, and just the files that were opened for it were loaded in the call, in order: none behind them, and no other
pub record IsCorrectInOrder (P : (file : ℕ) → Reading → Answer → Type 0) (file : ℕ) (g : Call) (answer : Answer) : Type 0 where
  pub correct : IsCorrectFrom P file g answer
  pub loads : LoadsFrom g.asked file (length correct.reading) g.before g.now

-- an answer that is given, or that is in a refusal, meets P; where there is no memory, nothing is said
abbrev pub AnswersBy : (Answer → Type 0) → Result Answer Refusal → Type 0
AnswersBy P (Ok answer) = P answer
AnswersBy P (Err refused) = WhereAnswered P refused
