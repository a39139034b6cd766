-- Which answer the certificate of two machines gets.
use Rattle.std.specs.Prelude.{◌≡◌, List, codes}
use Rattle.fs_model.specs.Machines.{Fsmd}
use Rattle.fs_model.specs.Runs.{SameBehaviour}
use Rattle.cert_bisimulation.specs.Tables.{Node}
use Rattle.sym_facts.specs.Facts.{Fact}
use Rattle.cert_model.specs.Obligations.{Verdict, Yes, No, IsWide, IsLarge, verdict_on}
use Rattle.fsmd_replies.specs.declared.answer.Answer.{Answer}
use Rattle.fsmd_replies.specs.declared.answer.Answer.TheVariants.{Text, Differs, Undecided}
use Rattle.fsmd_replies.specs.VerdictTexts.{yes_line, failure_line, undecided_line}

-- the answer that a verdict gets
abbrev pub answer_to : (a b : Fsmd) → Verdict → Answer
answer_to a b Yes = Text yes_line
answer_to a b (No k r) = Differs (failure_line a b k r)
answer_to a b (IsWide k) = Undecided (undecided_line k (codes "wide"))
answer_to a b (IsLarge k) = Undecided (undecided_line k (codes "large"))

-- the answer to nodes as a certificate of two machines: by the verdict; where that is yes, the machines have the same behaviour
pub record IsJudged (a b : Fsmd) (nodes : List (Node Fact)) (answer : Answer) : Type 0 where
  pub is : answer ≡ answer_to a b (verdict_on a b nodes)
  pub same : verdict_on a b nodes ≡ Yes → SameBehaviour a b
