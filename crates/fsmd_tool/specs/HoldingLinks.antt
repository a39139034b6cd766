-- When the links of a chain hold.
use Rattle.std.specs.Prelude.{◌≡◌, ℕ, zero, suc, ◌+◌, List, None}
use Rattle.fs_model.specs.Machines.{Fsmd}
use Rattle.fs_pair.specs.Interfaces.{interface_fault}
use Rattle.cert_bisimulation.specs.Tables.{Node}
use Rattle.sym_facts.specs.Facts.{Fact}
use Rattle.cert_model.specs.Obligations.{Yes, verdict_on}
use Rattle.fsmd_replies.specs.AskedFiles.{operand}
use Rattle.fsmd_answers.specs.MachineFiles.{SpellsMachine}
use Rattle.fsmd_answers.specs.Refusals.{SpellsCertificate}
use Rattle.fsmd_tool.specs.Calls.{Call, known_at_start, MayHold}

-- the files of the link that begins with this number spell the next machine, with the same inputs and outputs as the last one,
-- and a lawful certificate of both, each where it is known what it holds; all its obligations hold, and so does Rest of the next
-- machine
pub record LinkHolds (g : Call) (file : ℕ) (last : Fsmd) (Rest : Fsmd → Type 0) : Type 0 where
  pub next : Fsmd
  pub nodes : List (Node Fact)
  pub machine : MayHold (known_at_start g (operand file)) (SpellsMachine next)
  pub alike : interface_fault last next ≡ None
  pub certificate : MayHold (known_at_start g (operand (file + 1))) (SpellsCertificate last next nodes)
  pub hold : verdict_on last next nodes ≡ Yes
  pub rest : Rest next

-- so many links from a file on hold, from the last machine so far to the last of the chain
abbrev pub LinksHold : Call → (file links : ℕ) → (last end : Fsmd) → Type 0
LinksHold g file zero last end = last ≡ end
LinksHold g file (suc links) last end = LinkHolds g file last (λ next. LinksHold g (file + 2) links next end)
