-- When what was read of the files of a call is settled.
use Rattle.std.specs.Prelude.{◌≡◌, ◌<◌, ◌≤◌, ℕ, zero, suc, ◌+◌, List, [], ◌∷◌, length, None}
use Rattle.fs_base.specs.Outside.{FileKnowledge, Unknown, NoFile, Bytes}
use Rattle.fs_model.specs.Machines.{Fsmd}
use Rattle.fs_pair.specs.Interfaces.{interface_fault}
use Rattle.cert_bisimulation.specs.Tables.{Node}
use Rattle.sym_facts.specs.Facts.{Fact}
use Rattle.cert_model.specs.Obligations.{Yes, verdict_on}
use Rattle.fsmd_replies.specs.declared.answer.Answer.{Answer}
use Rattle.fsmd_replies.specs.AskedFiles.{operand}
use Rattle.fsmd_tool.specs.MachineFiles.{SpellsMachine}
use Rattle.fsmd_tool.specs.Readings.{FileContent, Readable, Unreadable, Reading}
use Rattle.fsmd_tool.specs.Refusals.{RefusesMachine, SpellsCertificate}
use Rattle.fsmd_tool.specs.Follows.{Follows}
use Rattle.fsmd_tool.specs.Calls.{Call, known_at_start, FailedToRead}
use Rattle.fsmd_tool_laws.specs.Agreement.{Agree}

-- ---- files that are settled

-- it is known that there is no file; or it is known what bytes the file has, and it did not fail to be read
abbrev pub Settles : FileKnowledge → (Failed : Type 0) → Type 0
Settles Unknown Failed = ⊥
Settles NoFile Failed = Unit {0}
Settles (Bytes bytes) Failed = Failed → ⊥

-- the same of the file of a number
abbrev pub IsSettled : Call → (file : ℕ) → Type 0
IsSettled g file = Settles (known_at_start g (operand file)) (FailedToRead g (operand file))

-- each file that both readings opened is settled
pub record AreSettled (g : Call) (r s : Reading) : Type 0 where
  pub settled : (file : ℕ) → file < length r → file < length s → IsSettled g file

-- ---- files that are known

-- it is known that the file of a number has bytes that meet P, and it did not fail to be read
pub record IsKnown (g : Call) (file : ℕ) (P : List ℕ → Type 0) : Type 0 where
  pub bytes : List ℕ
  pub known : known_at_start g (operand file) ≡ Bytes bytes
  pub meet : P bytes
  pub was_read : ¬ FailedToRead g (operand file)

-- it is known that the first two files of the call spell these machines, which have the same inputs and outputs
pub record SpellPair (g : Call) (a b : Fsmd) : Type 0 where
  pub left : IsKnown g 0 (SpellsMachine a)
  pub right : IsKnown g 1 (SpellsMachine b)
  pub alike : interface_fault a b ≡ None

-- it is known that the file of a number spells the next machine of a chain, with the same inputs and outputs as the last one, and
-- the file behind it a lawful certificate of both
pub record SpellLink (g : Call) (file : ℕ) (last next : Fsmd) (nodes : List (Node Fact)) : Type 0 where
  pub machine : IsKnown g file (SpellsMachine next)
  pub alike : interface_fault last next ≡ None
  pub certificate : IsKnown g (file + 1) (SpellsCertificate last next nodes)

-- it is known that the link that begins with the file of a number holds, and of its next machine Rest is known
pub record IsKnownToHold (g : Call) (file : ℕ) (last : Fsmd) (Rest : Fsmd → Type 0) : Type 0 where
  pub next : Fsmd
  pub nodes : List (Node Fact)
  pub spelled : SpellLink g file last next nodes
  pub holds : verdict_on last next nodes ≡ Yes
  pub rest : Rest next

-- it is known that so many links from a file on hold, from the last machine so far to the last of them
abbrev pub AreKnownToHold : Call → (file links : ℕ) → (last end : Fsmd) → Type 0
AreKnownToHold g file zero last end = last ≡ end
AreKnownToHold g file (suc links) last end = IsKnownToHold g file last (λ next. AreKnownToHold g (file + 2) links next end)

-- ---- files that are settled up to the one that is refused

-- what is read of a file of which this is known, where it is settled
abbrev pub read_of : FileKnowledge → FileContent
read_of Unknown = Unreadable
read_of NoFile = Unreadable
read_of (Bytes bytes) = Readable bytes

-- what is read of so many files from a number on, where they are settled
abbrev pub read_from : Call → (file count : ℕ) → Reading
read_from g file zero = []
read_from g file (suc count) = read_of (known_at_start g (operand file)) ∷ read_from g (file + 1) count

-- it is settled what is read of the file of a number, and as that of a machine it is refused
pub record IsRefusedAsMachine (g : Call) (file : ℕ) : Type 0 where
  pub settled : IsSettled g file
  pub answer : Answer
  pub refuses : RefusesMachine (operand file) (read_of (known_at_start g (operand file))) answer

-- so many files of the call are settled, and no file behind these is opened, whatever it holds: an answer follows from no reading
-- that agrees with what is read of these and that goes further. So it is with all files that are named, and with those up to the
-- first that is refused
pub record AreSettledUpToRefused (g : Call) : Type 0 where
  pub count : ℕ
  pub settled : (file : ℕ) → file < count → IsSettled g file
  pub none_behind : (r : Reading) (answer : Answer) → Agree r (read_from g 0 count) → Follows g.asked r answer
      → length r ≤ count
