-- When the bytes of a file are not read.
use Rattle.std.specs.Prelude.{◌≡◌, ℕ}
use Rattle.fsmd_replies.specs.declared.answer.Operand.{Operand}
use Rattle.fsmd_replies.specs.declared.answer.Answer.{Answer}
use Rattle.fsmd_replies.specs.declared.answer.Answer.TheVariants.{CannotRead, TooLong}
use Rattle.fsmd_answers.specs.MachineFiles.{IsTooLong}
use Rattle.fsmd_answers.specs.Readings.{FileContent, Unreadable, OfBytes}

-- the bytes of a file were not read: it failed to be read, or has more bytes than a limit
pub data IsUnread (limit : ℕ) (file : Operand) (content : FileContent) (answer : Answer) : Type 0 where
  Failed : content ≡ Unreadable → answer ≡ CannotRead file → IsUnread limit file content answer
  Long : OfBytes content (IsTooLong limit) → answer ≡ TooLong file limit → IsUnread limit file content answer
