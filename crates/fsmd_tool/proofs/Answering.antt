-- What is answered to what is asked.
use Rattle.std.proofs.Common.{◌≡◌, ◌∙◌, ℕ, ◌+◌, ◌*◌, ◌≤◌, Bool, List, [], ◌∷◌, length, Option, Some, None, refl, sym, subst, arith}
use Rattle.std.specs.Prelude.{Result, Ok, Err, IfOk, OnOk, IsTrue, is_some, option_map}
use Rattle.std.specs.Result.{IfErr}
use Rattle.fsmd_words.specs.AskedWords.{Asked, Check, Generate, Chain}
use Rattle.fs_model.specs.Machines.{Fsmd}
use Rattle.fs_base.specs.Outside.{FilesTold}
use Rattle.fsmd_replies.specs.declared.answer.Answer.{Answer}
use Rattle.fs_pair.specs.Interfaces.{interface_fault}
use Rattle.fsmd_replies.specs.AskedFiles.{operand, in_links, files_of, file_word_of}
use Rattle.hls_shrink.specs.Given.{has_no_input_port}
use Rattle.fsmd_answers.specs.MachineFiles.{SpellsMachine}
use Rattle.fsmd_answers.specs.Refusing.{WhereAnswered}
use Rattle.fsmd_answers.specs.declared.refused.Refused.{Refused as Refusal}
use Rattle.fsmd_answers.specs.ComparisonAnswers.{IsOfPair, IsOfLoops}
use Rattle.fsmd_answers.specs.Links.{links_in, links_of}
use Rattle.fsmd_answers.specs.Follows.{Ends, OpensMachine, OpensPair, OpensLinks, FollowsFrom}
use Rattle.fsmd_tool.specs.Calls.{Call, call, OnlyRead, LoadsFrom, LoadsAtMost, MayHold, IsCorrectInOrder, AnswersBy}
use Rattle.fsmd_tool.specs.Loading.{RefusesBoth}
use Rattle.fsmd_answers.proofs.Ports.{no_input_port}
use Rattle.fsmd_tool.proofs.Loads.{fewer, at_most_on}
use Rattle.fsmd_tool.proofs.InOrder.{ended_in_order, both_refused_in_order, both_in_order}
use Rattle.fsmd_answers.specs.declared.pair.Pair.{Pair}
use Rattle.fsmd_tool.specs.declared.answer.pairs.PairCommand.{PairCommand}
use Rattle.fsmd_tool.specs.PairCommands.{FollowsFor, files_behind}

-- what is answered to what is asked, where that is this
pub answers_as : (o : Option Asked) (g : Call) (r : Result Answer Refusal) → g.asked ≡ o → AnswersBy (IsCorrectInOrder (FollowsFrom o) 0 g) r
    → AnswersBy (IsCorrectInOrder (FollowsFrom g.asked) 0 g) r
answers_as o g r e h = subst (λ k. AnswersBy (IsCorrectInOrder (FollowsFrom k) 0 g) r) (sym e) h

is_some_of : {A B : Type 0} (f : A → B) (o : Option A) → is_some o ≡ is_some (option_map f o)
is_some_of f (Some x) = refl
is_some_of f None = refl

-- what is answered to a check, where `keeps` says whether a word names a file for a certificate
pub check_answers : {A : Type 0} (left right : List ℕ) (f : A → List ℕ) (cert : Option A) (steps : ℕ) (keeps : Bool) (g : Call) (r : Result Answer Refusal)
    → g.asked ≡ Some (Check left right (option_map f cert) steps) → keeps ≡ is_some cert
    → AnswersBy (IsCorrectInOrder (OpensPair (λ a b. Ends (IsOfPair steps keeps a b))) 0 g) r → AnswersBy (IsCorrectInOrder (FollowsFrom g.asked) 0 g) r
check_answers left right f cert steps keeps g r e k h =
    answers_as (Some (Check left right (option_map f cert) steps)) g r e
    (subst (λ b. AnswersBy (IsCorrectInOrder (OpensPair (λ v w. Ends (IsOfPair steps b v w))) 0 g) r) (k ∙ is_some_of f cert) h)

-- what is answered for a command on two machines, and how many files are loaded for it, where the command is this
pub answers_for : {k : PairCommand} (w : PairCommand) (a b : Fsmd) (g : Call) (r : Result Answer Refusal) → k ≡ w
    → AnswersBy (IsCorrectInOrder (FollowsFor w a b) 2 g) r → AnswersBy (IsCorrectInOrder (FollowsFor k a b) 2 g) r
answers_for w a b g r e h = subst (λ v. AnswersBy (IsCorrectInOrder (FollowsFor v a b) 2 g) r) (sym e) h

pub at_most_for : {k : PairCommand} (w : PairCommand) (o : Option Asked) (old new : FilesTold) → k ≡ w → LoadsAtMost o 2 (files_behind w) old new
    → LoadsAtMost o 2 (files_behind k) old new
at_most_for w o old new e h = subst (λ v. LoadsAtMost o 2 (files_behind v) old new) (sym e) h

-- what is said of the value of a result that is this value
pub of_ok : {A E : Type 0} (r : Result A E) (x : A) (P : A → Type 0) → r ≡ Ok x → IfOk r P → P x
of_ok r x P e h = subst (λ s. IfOk s P) e h

-- of the machines that were loaded, no input of the left one is a port
pub no_ports : (o : Option Asked) (old : FilesTold) (given : Result Pair Refusal)
    → IfOk given (λ p. MayHold (old.holds (file_word_of o (operand 0))) (SpellsMachine p.left)) → IfOk given (λ p. IsTrue (has_no_input_port p.left))
no_ports o old (Ok p) h = no_input_port p.left h.bytes h.meet
no_ports o old (Err e) h = tt

-- two machines were loaded, and then the files behind theirs, for this command
module _ (k : PairCommand) (o : Option Asked) (old mid now : FilesTold) where
  pub pair_answers : (given : Result Pair Refusal) (r : Result Answer Refusal) → OnlyRead old mid
      → IfOk given (λ p. MayHold (old.holds (file_word_of o (operand 0))) (SpellsMachine p.left))
      → IfOk given (λ p. MayHold (old.holds (file_word_of o (operand 1))) (SpellsMachine p.right))
      → IfOk given (λ p. interface_fault p.left p.right ≡ None) → OnOk given (LoadsFrom o 0 2 old mid)
      → IfErr given (WhereAnswered (IsCorrectInOrder RefusesBoth 0 (call o old mid)))
      → IfOk given (λ p. AnswersBy (IsCorrectInOrder (FollowsFor k p.left p.right) 2 (call o mid now)) r)
      → IfErr given (λ e. r ≡ Err e) → IfErr given (λ _. now ≡ mid)
      → AnswersBy (IsCorrectInOrder (OpensPair (FollowsFor k)) 0 (call o old now)) r
  pair_answers (Ok p) r read left right alike loads refused answers passed none =
      both_in_order (FollowsFor k) o old mid now read loads p.left p.right left right alike r answers
  pair_answers (Err e) r read left right alike loads refused answers passed none =
      let h : AnswersBy (IsCorrectInOrder (OpensPair (FollowsFor k)) 0 (call o old mid)) (Err e) =
      both_refused_in_order (FollowsFor k) (call o old mid) e refused in
      subst (λ s. AnswersBy (IsCorrectInOrder (OpensPair (FollowsFor k)) 0 (call o old now)) s) (sym passed)
      (subst (λ t. AnswersBy (IsCorrectInOrder (OpensPair (FollowsFor k)) 0 (call o old t)) (Err e)) (sym none) h)

  pub pair_loads : (given : Result Pair Refusal) → LoadsAtMost o 0 2 old mid → OnOk given (LoadsFrom o 0 2 old mid)
      → LoadsAtMost o 2 (files_behind k) mid now → IfErr given (λ _. now ≡ mid) → LoadsAtMost o 0 (2 + files_behind k) old now
  pair_loads (Ok p) most loads behind none = at_most_on o 0 2 (files_behind k) 2 (2 + files_behind k) old mid now refl refl loads behind
  pair_loads (Err e) most loads behind none =
      subst (λ t. LoadsAtMost o 0 (2 + files_behind k) old t) (sym none) (fewer o 0 2 (2 + files_behind k) old mid (omega arith) most)

-- what is answered to generated machines
pub of_loops : (o : Option Asked) (t : FilesTold) (loops : ℕ) (x : Answer) → o ≡ Some (Generate loops) → IsOfLoops loops x
    → IsCorrectInOrder (FollowsFrom o) 0 (call o t t) x
of_loops o t loops x e h = subst (λ w. IsCorrectInOrder (FollowsFrom w) 0 (call o t t) x) (sym e) (ended_in_order (IsOfLoops loops) 0 o t x h)

-- what is answered to a chain
pub chain_answers : (words : List (List ℕ)) (g : Call) (r : Result Answer Refusal) → g.asked ≡ Some (Chain words)
    → AnswersBy (IsCorrectInOrder (OpensMachine (λ m. OpensLinks g.asked m m 0 (links_of words))) 0 g) r
    → AnswersBy (IsCorrectInOrder (FollowsFrom g.asked) 0 g) r
chain_answers words g r e h = answers_as (Some (Chain words)) g r e
    (subst (λ o. AnswersBy (IsCorrectInOrder (OpensMachine (λ m. OpensLinks o m m 0 (links_of words))) 0 g) r) e h)

-- the words of a chain name two files for each of its links, and one more
two_a_link : (words : List (List ℕ)) → 2 * links_in words ≤ length (in_links words)
two_a_link [] = omega arith
two_a_link (c ∷ []) = omega arith
two_a_link (c ∷ m ∷ words) = omega (arith, two_a_link words)

pub enough : (files : List (List ℕ)) → 1 + 2 * links_of files ≤ length (files_of (Some (Chain files)))
enough [] = omega arith
enough (m ∷ words) = omega (arith, two_a_link words)
