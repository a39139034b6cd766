-- Which answer two machines get.
use Rattle.std.specs.Prelude.{◌≡◌, ℕ, Bool, List, length, Option, Some, None, false, if◌then◌else◌}
use Rattle.fs_model.specs.Machines.{Fsmd}
use Rattle.fs_model.specs.Runs.{SameBehaviour}
use Rattle.fs_rules.specs.MachineOfParts.{machine_of}
use Rattle.fs_generated.specs.Generated.{left_source, right_source}
use Rattle.cert_bisimulation.specs.Tables.{Node}
use Rattle.sym_facts.specs.Facts.{Fact}
use Rattle.cert_writer.specs.WrittenCertificates.{certificate_text}
use Rattle.search_tables.specs.SearchTables.{machines}
use Rattle.fsmd_pair_answers.specs.PairAnswers.{ShowsSame, IsCounterexample, IsUndecided}
use Rattle.fsmd_replies.specs.declared.answer.Answer.{Answer}
use Rattle.fsmd_replies.specs.declared.answer.Answer.TheVariants.{Equivalent, Differs, Undecided}
use Rattle.fsmd_answers.specs.LineAnswers.{HasLines}
use Rattle.fsmd_replies.specs.AskedFiles.{generated_steps}

-- a certificate that holds shows that two machines have the same behaviour
pub record AreSame (a b : Fsmd) (nodes : List (Node Fact)) : Type 0 where
  pub shows : ShowsSame (machines a b) nodes
  pub same : SameBehaviour a b

-- the text of a certificate, where it is to be stored
abbrev pub text_to_store : Bool → List ℕ → Option (List ℕ)
text_to_store keeps text = if keeps then Some text else None

-- the answer to two machines with the same inputs and outputs, of runs of at most so many steps, and with the text of the
-- certificate where that is to be stored: by a certificate that holds; by the first stated candidate that shows a difference; or,
-- where none does, by the search's obstacle
pub data IsOfPair (limit : ℕ) (keeps : Bool) (a b : Fsmd) (answer : Answer) : Type 0 where
  Same : (nodes : List (Node Fact)) → AreSame a b nodes
      → answer ≡ Equivalent (length nodes) (text_to_store keeps (certificate_text a b nodes)) → IsOfPair limit keeps a b answer
  Apart : HasLines (IsCounterexample limit a b) Differs answer → IsOfPair limit keeps a b answer
  Open : HasLines (IsUndecided limit a b) Undecided answer → IsOfPair limit keeps a b answer

-- the two machines of so many loops
abbrev pub left_of : ℕ → Fsmd
left_of loops = machine_of (left_source loops)

abbrev pub right_of : ℕ → Fsmd
right_of loops = machine_of (right_source loops)

-- the answer to two machines of so many loops
abbrev pub IsOfLoops : (loops : ℕ) → Answer → Type 0
IsOfLoops loops answer = IsOfPair generated_steps false (left_of loops) (right_of loops) answer
