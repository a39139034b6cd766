-- What a call tells of two machines that are alike.
use Rattle.std.specs.Prelude.{◌≡◌, ◌⊎◌, ℕ, List, length}
use Rattle.fs_model.specs.Machines.{Fsmd}
use Rattle.cert_bisimulation.specs.Tables.{Node}
use Rattle.sym_facts.specs.Facts.{Fact}
use Rattle.cert_bisimulation.specs.Alike.{WhereAlike}
use Rattle.fsmd_replies.specs.SearchTables.{machines}
use Rattle.fsmd_answers.specs.SearchOutcomes.{IsClosedWith}
use Rattle.fsmd_answers.specs.PairAnswers.{HasLimit}
use Rattle.fsmd_replies.specs.declared.answer.Status.{Status}
use Rattle.fsmd_replies.specs.declared.answer.Status.TheVariants.{Fine, Differ, Undecided}
use Rattle.fsmd_replies.specs.Replies.{equivalent_text}
use Rattle.fsmd_tool.specs.Calls.{Call}
use Rattle.fsmd_tool.specs.SinkReplies.{Put}
use Rattle.fsmd_tool.specs.Equivalent.{ArePairedMachines, HasPut}

-- the statuses of answers to two machines
abbrev pub AnswersPair : Status → Type 0
AnswersPair s = (s ≡ Fine) ⊎ ((s ≡ Differ) ⊎ (s ≡ Undecided))

-- a search of two machines closes, and the number of nodes of its certificate was put; or a limit stops it, whose line was put
pub data TellsClosedOrLimit (g : Call) (p : Put) (a b : Fsmd) : Type 0 where
  Closes : p.status ≡ Fine → (nodes : List (Node Fact)) → IsClosedWith (machines a b) nodes
      → HasPut g p (equivalent_text (length nodes)) → TellsClosedOrLimit g p a b
  Stops : p.status ≡ Undecided → (lines : List ℕ) → HasLimit (machines a b) lines → HasPut g p lines → TellsClosedOrLimit g p a b

-- two machines are compared; and where these are alike, it was told that a search of them closes, or that a limit stops it: no
-- difference, and no other obstacle
pub record TellsOfAlike (g : Call) (p : Put) : Type 0 where
  pub left : Fsmd
  pub right : Fsmd
  pub paired : ArePairedMachines g left right
  pub tells : WhereAlike left right (TellsClosedOrLimit g p left right)
