-- Where nothing failed calls end with what machines get, or have no memory.
use Rattle.std.proofs.Common.{◌≡◌, ◌∙◌, ℕ, Bool, true, false, List, Option, Some, ap}
use Rattle.std.specs.Prelude.{IsTrue, is_some}
use Rattle.fsmd_words.specs.AskedWords.{Generate}
use Rattle.fs_base.specs.Outside.{Rose}
use Rattle.fs_model.specs.Machines.{Fsmd}
use Rattle.fsmd_replies.specs.declared.answer.Status.{Status}
use Rattle.fsmd_replies.specs.declared.answer.Answer.{Answer}
use Rattle.fsmd_replies.specs.Statuses.{status_of, certificate_in}
use Rattle.fsmd_replies.specs.AskedFiles.{cert_of, is_check, step_limit, generated_steps}
use Rattle.fsmd_replies.specs.Replies.{reply}
use Rattle.fsmd_tool.specs.ComparisonAnswers.{IsOfPair, Same, Apart, Open, left_of, right_of}
use Rattle.fsmd_tool.specs.Calls.{Call}
use Rattle.fsmd_tool.specs.SinkReplies.{Put, IsWhole, IsPut, Whole, Cut}
use Rattle.fsmd_tool.specs.CertificateStores.{FileChange, file_change, FileToStore, to_store}
use Rattle.fsmd_tool.specs.Correct.{IsCorrectAnswer, IsDone, Kept, Stored, Unstored, Outcome, Answers, Starves}
use Rattle.fsmd_tool.proofs.Causes.{entry_named}
use Rattle.fsmd_tool_laws.specs.Settled.{SpellPair}
use Rattle.fsmd_tool_laws.specs.CallOutcomes.{NothingFailed, is_of_comparison, EndsBy, WithAnswer, OutOfMemory}
use Rattle.fsmd_tool_laws.proofs.Correct.{machines_checked, loops_answered}

pair_status : (limit : ℕ) (keeps : Bool) (a b : Fsmd) (x : Answer) → IsOfPair limit keeps a b x → IsTrue (is_of_comparison (status_of x))
pair_status limit keeps a b x (Same n p e) = ap (λ (y : Answer). is_of_comparison (status_of y)) e
pair_status limit keeps a b x (Apart l) = ap (λ (y : Answer). is_of_comparison (status_of y)) l.is
pair_status limit keeps a b x (Open l) = ap (λ (y : Answer). is_of_comparison (status_of y)) l.is

put_whole : (reply : List ℕ) (meant : Status) (p : Put) → ¬ Rose p.faults_before p.faults_now → IsPut reply meant p → IsWhole reply meant p
put_whole reply meant p never (Whole w) = w
put_whole reply meant p never (Cut c) = absurd (never c.failed)

done_whole : (e : Option FileToStore) (reply : List ℕ) (meant : Status) (s : FileChange) (p : Put) → ¬ Rose p.faults_before p.faults_now
    → ((x : FileToStore) → e ≡ Some x → ¬ Rose (s.faults_before x.name) (s.faults_now x.name))
    → IsDone e reply meant s p → IsWhole reply meant p
done_whole e reply meant s p never written (Kept none k put) = put_whole reply meant p never put
done_whole e reply meant s p never written (Stored x is k put) = put_whole reply meant p never put
done_whole e reply meant s p never written (Unstored x is u put) = absurd (written x is u.failed)

-- a call ends by what each answer that is correct meets
pub ends_by : (P : Answer → Type 0) (g : Call) (p : Put) → NothingFailed g p → ((x : Answer) → IsCorrectAnswer g x → P x) → Outcome g p → EndsBy P g p
ends_by P g p n h (Answers a) =
    WithAnswer a.answer a.correct (h a.answer a.correct)
    (done_whole (to_store g.asked a.answer) (reply a.answer g.asked) (status_of a.answer)
    (file_change g.before g.now) p n.put (λ x is. n.stored x.name (entry_named (cert_of g.asked) (certificate_in a.answer) x is)) a.done)
ends_by P g p n h (Starves k) = OutOfMemory k

-- a call ends with such a status where each answer that is correct has one
ended_so : (g : Call) (p : Put) → EndsBy (λ x. IsTrue (is_of_comparison (status_of x))) g p → IsTrue (is_of_comparison p.status)
ended_so g p (WithAnswer x c h w) = ap is_of_comparison w.status ∙ h
ended_so g p (OutOfMemory k) = ap is_of_comparison k.status

outcome_status : (g : Call) (p : Put) → NothingFailed g p → ((x : Answer) → IsCorrectAnswer g x → IsTrue (is_of_comparison (status_of x))) → Outcome g p
    → IsTrue (is_of_comparison p.status)
outcome_status g p n h o = ended_so g p (ends_by (λ x. IsTrue (is_of_comparison (status_of x))) g p n h o)

pub check_ends : (g : Call) (p : Put) (a b : Fsmd) → is_check g.asked ≡ true → SpellPair g a b → NothingFailed g p → Outcome g p
    → IsTrue (is_of_comparison p.status)
check_ends g p a b e k n o = outcome_status g p n (λ x c. pair_status (step_limit g.asked) (is_some (cert_of g.asked)) a b x (machines_checked g x a b e k c)) o

pub generate_ends : (g : Call) (p : Put) (loops : ℕ) → g.asked ≡ Some (Generate loops) → NothingFailed g p → Outcome g p → IsTrue (is_of_comparison p.status)
generate_ends g p loops e n o =
    outcome_status g p n (λ x c. pair_status generated_steps false (left_of loops) (right_of loops) x (loops_answered g x loops e c)) o
