-- What is answered, and what is put of it.
use Rattle.std.proofs.Common.{◌≡◌, ℕ, List, Option, Some, None, refl, sym, subst, length}
use Rattle.std.specs.Prelude.{Result, Ok, Err, IfOk}
use Rattle.std.specs.Result.{OnErr}
use Rattle.fsmd_words.specs.AskedWords.{Asked}
use Rattle.fs_base.specs.Outside.{FilesTold, NoneFell}
use Rattle.fsmd_replies.specs.declared.answer.Status.{Status}
use Rattle.fsmd_replies.specs.declared.answer.Status.TheVariants.{Fault}
use Rattle.fsmd_replies.specs.declared.answer.Answer.{Answer}
use Rattle.fsmd_replies.specs.declared.answer.Answer.TheVariants.{Usage}
use Rattle.fsmd_replies.specs.Statuses.{status_of, certificate_in}
use Rattle.fsmd_replies.specs.AskedFiles.{cert_of}
use Rattle.fsmd_replies.specs.Replies.{reply, unstored_reply}
use Rattle.fsmd_answers.specs.Follows.{FollowsFrom}
use Rattle.fsmd_tool.specs.Calls.{call, OnlyRead, IsCorrectInOrder}
use Rattle.fsmd_tool.specs.SinkReplies.{Put, IsPut}
use Rattle.fsmd_tool.specs.CertificateStores.{FileChange, file_change, IsUnstored, FileToStore, to_store, to_store_given, Leaves, NotStored, Untouched}
use Rattle.fsmd_tool.specs.CertificateStores.{Failed, LeftAlone, LeftStored, LeftUnstored, IsUnwritten, NoneWritten, WriteFailed}
use Rattle.fsmd_tool.specs.Correct.{IsDone, IsDoneFor, IsDoneForGiven, Kept, Unstored, Answered}
use Rattle.fsmd_tool.specs.Clauses.{KeepsFiles, AllKept}
use Rattle.fsmd_tool.proofs.Loads.{loads_until}
use Rattle.fsmd_tool.proofs.InOrder.{ended_in_order}
use Rattle.fsmd_tool.proofs.Later.{read_map, each_until, correct_until}
use Rattle.fsmd_tool.proofs.LaterStores.{done_since, leaves_since, not_stored_since}
use Rattle.fsmd_tool.proofs.Causes.{entry_named}
use Rattle.fsmd_tool.proofs.Says.{keeps_files}

-- how the program is used was put, where the words ask nothing
pub answers_usage : (files : FilesTold) (p : Put) → IsPut (reply Usage None) (status_of Usage) p → Answered (call None files files) p
answers_usage files p put =
    let c = ended_in_order (λ answer. answer ≡ Usage) 0 None files Usage refl in
    record { answer = Usage; correct = c.correct; loads = c.loads; done = Kept refl (λ name. refl) put }

pub on_err : {T E : Type 0} (r : Result T E) (P : Type 0) → P → OnErr r P
on_err (Ok t) P h = tt
on_err (Err e) P h = h

-- what was put in the place of the reply, where what is to be stored was not
pub unstored : {E : Type 0} (x : FileToStore) (reply : List ℕ) (meant : Status) (s : FileChange) (r : Result Status E) (p : Status → Put) → IsUnstored x.name s
    → IfOk r (λ t. IsPut (unstored_reply x.name) Fault (p t)) → IfOk r (λ t. IsDone (Some x) reply meant s (p t))
unstored x reply meant s (Ok t) p u put = Unstored x refl u put
unstored x reply meant s (Err e) p u put = tt

-- what was done for an answer that is given
pub done_given : {E : Type 0} (o : Option Asked) (given : Option Answer) (answer : Answer) (s : FileChange) (r : Result Status E) (p : Status → Put)
    → given ≡ Some answer → IfOk r (λ t. IsDoneFor o answer s (p t)) → IfOk r (λ t. IsDoneForGiven o given s (p t))
done_given o given answer s (Ok t) p e done = record { answer = answer; is = e; done = done }
done_given o given answer s (Err x) p e done = tt

-- what became of what is to be stored of it
pub leaves_given : (o : Option Asked) (given : Option Answer) (answer : Answer) (s : FileChange) → given ≡ Some answer → Leaves (to_store o answer) s
    → Leaves (to_store_given o given) s
leaves_given o given answer s e l = subst (λ x. Leaves (to_store_given o x) s) (sym e) l

pub not_stored_given : {T E : Type 0} (o : Option Asked) (given : Option Answer) (answer : Answer) (s : FileChange) (r : Result T E) → given ≡ Some answer
    → OnErr r (NotStored (to_store o answer) s) → OnErr r (NotStored (to_store_given o given) s)
not_stored_given o given answer s r e n = subst (λ x. OnErr r (NotStored (to_store_given o x) s)) (sym e) n

-- what was put of an answer, over files that were loaded before
pub answered : (o : Option Asked) (old mid now : FilesTold) (answer : Answer) (p : Put) → OnlyRead old mid → NoneFell mid.faults now.faults
    → now.loaded ≡ mid.loaded → IsCorrectInOrder (FollowsFrom o) 0 (call o old mid) answer → IsDoneFor o answer (file_change mid now) p
    → Answered (call o old now) p
answered o old mid now answer p read fell same correct done = record {
  answer = answer;
  correct = record {
    reading = correct.correct.reading;
    may_be_read = read_map (call o old mid) (call o old now) (each_until o old mid now read.counts fell) 0 correct.correct.reading correct.correct.may_be_read;
    follows = correct.correct.follows;
  };
  loads = loads_until o 0 (length correct.correct.reading) old mid now same correct.loads;
  done = done_since (to_store o answer) (reply answer o) (status_of answer) old mid now p read done;
}

kept_alone : (o : Option Asked) (old now : FilesTold) → Leaves None (file_change old now) → KeepsFiles (call o old now)
kept_alone o old now (LeftAlone k) = AllKept k
kept_alone o old now (LeftStored x e k) = absurd (let h : None ≡ Some x = e in cc)
kept_alone o old now (LeftUnstored x e k) = absurd (let h : None ≡ Some x = e in cc)

-- no file was changed but for an answer that is given and correct
pub keeps : (o : Option Asked) (old mid now : FilesTold) (given : Option Answer) → OnlyRead old mid → NoneFell mid.faults now.faults
    → ((answer : Answer) → given ≡ Some answer → IsCorrectInOrder (FollowsFrom o) 0 (call o old mid) answer)
    → Leaves (to_store_given o given) (file_change mid now) → KeepsFiles (call o old now)
keeps o old mid now (Some answer) read fell correct leaves =
    keeps_files (call o old now) answer (correct_until o old mid now read.counts fell (FollowsFrom o) 0 answer (correct answer refl).correct)
    (leaves_since (to_store o answer) old mid now read leaves)
keeps o old mid now None read fell correct leaves = kept_alone o old now (leaves_since None old mid now read leaves)

-- nothing that the words ask to be stored was
unwritten_of : (o : Option Asked) (given : Option Answer) (s : FileChange) → NotStored (to_store_given o given) s → IsUnwritten o s
unwritten_of o given s (Untouched k) = NoneWritten k
unwritten_of o (Some answer) s (Failed x e u) = WriteFailed x.name (entry_named (cert_of o) (certificate_in answer) x e) u
unwritten_of o None s (Failed x e u) = absurd (let h : None ≡ Some x = e in cc)

pub unwritten : (o : Option Asked) (old mid now : FilesTold) (given : Option Answer) → OnlyRead old mid
    → NotStored (to_store_given o given) (file_change mid now) → IsUnwritten o (file_change old now)
unwritten o old mid now given read n = unwritten_of o given (file_change old now) (not_stored_since (to_store_given o given) old mid now read n)
