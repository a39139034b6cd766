-- What the bytes of a file give, or why no answer was found.
use Rattle.std.specs.Prelude.{◌≡◌, ℕ, List, Option, Some, None, Result, Ok, Err}
use Rattle.fs_rules.specs.MachineOfParts.{machine_of}
use Rattle.fs_model.specs.Source.{Source}
use Rattle.fs_model.specs.Machines.{Fsmd}
use Rattle.fsmd_replies.specs.declared.answer.Answer.{Answer}
use Rattle.fsmd_answers.specs.declared.refused.Refused.{Refused as Refusal}
use Rattle.fsmd_answers.specs.declared.refused.Refused.TheVariants.{Answered, NoMemory}
use Rattle.fsmd_answers.specs.MachineFiles.{SpellsParts}

-- if there is an answer, then P of it
abbrev pub WhereAnswered : (Answer → Type 0) → Refusal → Type 0
WhereAnswered P (Answered answer) = P answer
WhereAnswered P NoMemory = Unit {0}

-- the answer that is given, or that is in a refusal
abbrev pub answer_in : Result Answer Refusal → Option Answer
answer_in (Ok answer) = Some answer
answer_in (Err (Answered answer)) = Some answer
answer_in (Err NoMemory) = None

-- an answer, or that there is no memory for it
abbrev pub made_answer : {E : Type 0} → Result Answer E → Result Answer Refusal
made_answer (Ok answer) = Ok answer
made_answer (Err error) = Err NoMemory

-- these parts and this machine are what the bytes spell
pub record IsLoaded (parts : Source) (m : Fsmd) (bytes : List ℕ) : Type 0 where
  pub spells : SpellsParts parts bytes
  pub machine : m ≡ machine_of parts
