-- The answer to two machines that a certificate shows to have the same behaviour, and to two that are left undecided.
use Rattle.std.proofs.Common.{◌≡◌, ℕ, Bool, List, length, Option, ap₂, refl}
use Rattle.fs_model.specs.Machines.{Fsmd}
use Rattle.cert_bisimulation.specs.Tables.{Node}
use Rattle.sym_facts.specs.Facts.{Fact}
use Rattle.cert_writer.specs.WrittenCertificates.{certificate_text}
use Rattle.search_tables.specs.declared.outcome.Outcome.{Outcome}
use Rattle.search_tables.specs.SearchTables.{machines}
use Rattle.fsmd_replies.specs.ObstacleTexts.{outcome_text}
use Rattle.fsmd_replies.specs.declared.answer.Answer.{Answer}
use Rattle.fsmd_replies.specs.declared.answer.Answer.TheVariants.{Equivalent, Undecided}
use Rattle.fsmd_pair_answers.specs.PairAnswers.{IsUndecidedWith}
use Rattle.fsmd_pair_answers.proofs.Stopped.{undecided}
use Rattle.fsmd_answers.specs.ComparisonAnswers.{AreSame, IsOfPair, Same, Open, text_to_store}

pub equivalent : (limit : ℕ) (keeps : Bool) (a b : Fsmd) (nodes : List (Node Fact)) (count : ℕ) (cert : Option (List ℕ)) → AreSame a b nodes
    → count ≡ length nodes → cert ≡ text_to_store keeps (certificate_text a b nodes) → IsOfPair limit keeps a b (Equivalent count cert)
equivalent limit keeps a b nodes count cert same e f = Same nodes same (ap₂ Equivalent e f)

pub left_open : (limit : ℕ) (keeps : Bool) (a b : Fsmd) (outcome : Outcome) (answer : Answer) → IsUndecidedWith limit a b outcome
    → answer ≡ Undecided (outcome_text (machines a b) outcome) → IsOfPair limit keeps a b answer
left_open limit keeps a b outcome answer h e = Open (record {
  lines = outcome_text (machines a b) outcome;
  holds = undecided limit a b outcome (outcome_text (machines a b) outcome) h refl;
  is = e;
})
