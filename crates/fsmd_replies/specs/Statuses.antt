-- The numbers with which the program ends, and the status of each answer.
use Rattle.std.specs.Prelude.{ℕ, List, Option, None}
use Rattle.fsmd_replies.specs.declared.answer.Status.{Status}
use Rattle.fsmd_replies.specs.declared.answer.Status.TheVariants.{Fine, Differ, Undecided, Usage, BadInput, NoMemory, Fault}
use Rattle.fsmd_replies.specs.declared.answer.Answer.{Answer}
use Rattle.fsmd_replies.specs.declared.answer.Answer.TheVariants as answers

-- the number of a status
abbrev pub code_of : Status → ℕ
code_of Fine = 0
code_of Differ = 1
code_of Undecided = 2
code_of Usage = 64
code_of BadInput = 65
code_of NoMemory = 71
code_of Fault = 74

-- the status with which a command that answers this ends
abbrev pub status_of : Answer → Status
status_of answers.Usage = Usage
status_of (answers.Equivalent nodes cert) = Fine
status_of (answers.Text lines) = Fine
status_of (answers.Differs lines) = Differ
status_of (answers.Undecided lines) = Undecided
status_of (answers.Link status lines) = status
status_of (answers.TextRefused file fault) = BadInput
status_of (answers.CheckRefused file fault) = BadInput
status_of (answers.NotJson file) = BadInput
status_of (answers.KeyRefused file fault key) = BadInput
status_of (answers.Over file state unit) = BadInput
status_of (answers.CertRefused file error) = BadInput
status_of (answers.Interfaces name) = BadInput
status_of (answers.TooLong file limit) = BadInput
status_of (answers.CannotRead file) = Fault

-- the text of a certificate that is to be stored
abbrev pub certificate_in : Answer → Option (List ℕ)
certificate_in (answers.Equivalent nodes cert) = cert
certificate_in _ = None
