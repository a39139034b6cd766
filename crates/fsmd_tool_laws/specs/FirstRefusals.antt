-- The first refusal of a call, and how the call ends by it.
use Rattle.std.specs.Prelude.{◌≡◌, ◌<◌, ℕ, Bool, true, false, List, Option, Some}
use Rattle.fsmd_words.specs.AskedWords.{Asked, Check, Verify, Run, Replay, Fmt, Cuts, Schedule, Bind, Shrink, Chain}
use Rattle.fs_model.specs.Machines.{Fsmd}
use Rattle.fsmd_replies.specs.declared.answer.Operand.{Operand}
use Rattle.fsmd_replies.specs.declared.answer.Status.TheVariants.{BadInput}
use Rattle.fsmd_replies.specs.declared.answer.Answer.{Answer}
use Rattle.fsmd_replies.specs.declared.answer.Answer.TheVariants.{Link}
use Rattle.fsmd_replies.specs.AskedFiles.{operand}
use Rattle.fsmd_tool.specs.MachineFiles.{SpellsMachine}
use Rattle.fsmd_tool.specs.Readings.{FileContent, Readable}
use Rattle.fsmd_replies.specs.Replies.{reply}
use Rattle.fsmd_replies.specs.Statuses.{status_of}
use Rattle.fsmd_replies.specs.ChainTexts.{link_lines}
use Rattle.fsmd_tool.specs.Links.{links_of}
use Rattle.fsmd_tool.specs.Follows.{Follows}
use Rattle.fsmd_tool.specs.Calls.{Call}
use Rattle.fsmd_tool.specs.SinkReplies.{Put, IsPut}
use Rattle.fsmd_tool.specs.CertificateStores.{file_change, IsUnchangedStore}
use Rattle.fsmd_tool.specs.Correct.{IsStarved}
use Rattle.fsmd_tool_laws.specs.Settled.{IsSettled, IsKnown, AreKnownToHold, read_from}

-- ---- what is asked, by the files that are opened

-- the first file is that of a machine
abbrev pub opens_machine : Option Asked → Bool
opens_machine (Some (Check left right cert steps)) = true
opens_machine (Some (Verify left right cert)) = true
opens_machine (Some (Run machine inputs steps)) = true
opens_machine (Some (Replay left right inputs steps)) = true
opens_machine (Some (Fmt machine)) = true
opens_machine (Some (Cuts machine)) = true
opens_machine (Some (Schedule machine units)) = true
opens_machine (Some (Bind machine binding)) = true
opens_machine (Some (Shrink left right inputs steps)) = true
opens_machine (Some (Chain files)) = true
opens_machine _ = false

-- the first two files are those of machines with the same inputs and outputs
abbrev pub opens_pair : Option Asked → Bool
opens_pair (Some (Check left right cert steps)) = true
opens_pair (Some (Verify left right cert)) = true
opens_pair (Some (Replay left right inputs steps)) = true
opens_pair (Some (Shrink left right inputs steps)) = true
opens_pair _ = false

-- the third file is that of inputs, from which two machines are run
abbrev pub runs_pair : Option Asked → Bool
runs_pair (Some (Replay left right inputs steps)) = true
runs_pair (Some (Shrink left right inputs steps)) = true
runs_pair _ = false

-- ---- refusals

-- it is known that the file of a number has bytes that are refused, by R with this answer
abbrev pub IsKnownToBeRefused : Call → (file : ℕ) → (R : Operand → FileContent → Answer → Type 0) → Answer → Type 0
IsKnownToBeRefused g file R answer = IsKnown g file (λ bytes. R (operand file) (Readable bytes) answer)

-- the first refusal of a call: so many files are settled, and it follows from what is read of these alone. So it is that of the
-- last of these, or of two machines, or of a machine that needs more units
pub record IsFirstRefusal (g : Call) (refusal : Answer) : Type 0 where
  pub count : ℕ
  pub settled : (file : ℕ) → file < count → IsSettled g file
  pub follows : Follows g.asked (read_from g 0 count) refusal
  pub status : status_of refusal ≡ BadInput

-- there is a first refusal of a call
pub record HasFirstRefusal (g : Call) : Type 0 where
  pub refusal : Answer
  pub is_first : IsFirstRefusal g refusal

-- so many links of a chain are known to hold, up to this machine, and there is one more behind
pub record HoldUpToLink (g : Call) (links : ℕ) (last : Fsmd) : Type 0 where
  pub words : List (List ℕ)
  pub asked : g.asked ≡ Some (Chain words)
  pub more : links < links_of words
  pub first : Fsmd
  pub begins : IsKnown g 0 (SpellsMachine first)
  pub hold : AreKnownToHold g 1 links first last

-- a refusal, told as that of the link of this number
abbrev pub refusal_at : Option Asked → (link : ℕ) → Answer → Answer
refusal_at asked link refusal = Link BadInput (link_lines asked link refusal)

-- nothing was stored, and the line of a refusal was put with the status of bad input, whole, or cut by a sink that failed; or
-- there was no memory
pub data EndsByRefusal (refusal : Answer) (g : Call) (p : Put) : Type 0 where
  WithLine : IsUnchangedStore (file_change g.before g.now) → IsPut (reply refusal g.asked) BadInput p → EndsByRefusal refusal g p
  WithoutMemory : IsStarved g p → EndsByRefusal refusal g p
