-- All that is promised of a call, from what was put.
use Rattle.std.proofs.Common.{◌≡◌, ◌≤◌, Option, Some, None, refl, sym, subst, length, arith}
use Rattle.std.specs.Prelude.{Result, Ok, Err, IfOk}
use Rattle.std.specs.Result.{OnErr}
use Rattle.fsmd_words.specs.AskedWords.{Asked}
use Rattle.fs_base.specs.Outside.{FilesTold, SinkTold, NoneFell}
use Rattle.fsmd_replies.specs.declared.answer.Status.{Status}
use Rattle.fsmd_replies.specs.declared.answer.Status.TheVariants.{Fine, Differ, Undecided, NoMemory, Fault}
use Rattle.fsmd_replies.specs.declared.answer.Answer.{Answer}
use Rattle.fsmd_replies.specs.declared.answer.Answer.TheVariants.{Usage}
use Rattle.fsmd_replies.specs.Statuses.{status_of}
use Rattle.fsmd_replies.specs.AskedFiles.{files_of}
use Rattle.fsmd_replies.specs.Replies.{reply}
use Rattle.fsmd_answers.specs.Follows.{FollowsFrom}
use Rattle.fsmd_answers.specs.Refusing.{answer_in}
use Rattle.fsmd_tool.specs.Calls.{Call, call, OnlyRead, LoadsNamed, IsCorrectInOrder, AnswersBy}
use Rattle.fsmd_tool.specs.SinkReplies.{Put, put_between, IsPut, end_status}
use Rattle.fsmd_answers.specs.declared.refused.Refused.{Refused as Refusal}
use Rattle.fsmd_tool.specs.CertificateStores.{file_change, to_store_given, Leaves, NotStored, IsUnwritten, NoneWritten}
use Rattle.fsmd_tool.specs.Correct.{IsDoneForGiven, Answered, Answers, Starves}
use Rattle.fsmd_tool.specs.AlikeCalls.{AnswersPair}
use Rattle.fsmd_tool.specs.Clauses.{KeepsFiles, AllKept}
use Rattle.fsmd_tool.specs.Running.{IsDriven}
use Rattle.fsmd_tool.proofs.Loads.{at_most_none, at_most_until}
use Rattle.fsmd_tool.proofs.InOrder.{in_answer}
use Rattle.fsmd_tool.proofs.Putting.{answers_usage, answered, keeps, unwritten}
use Rattle.fsmd_tool.proofs.AlikeMachines.{tells_of_alike, no_memory_of_pair}
use Rattle.fsmd_tool.proofs.Says.{are_equivalent, are_generated_equivalent, are_verified, says_same, says_differ, says_undecided, is_checked}
use Rattle.fsmd_tool.proofs.Synthesized.{is_compiled, is_in_rows, is_in_registers}
use Rattle.fsmd_tool.proofs.Shrunk.{is_shrunk}
use Rattle.fsmd_tool.proofs.Chained.{are_chained, is_chained}
use Rattle.fsmd_tool.proofs.Causes.{has_cause}

-- what holds however a call ends
record Stays (g : Call) (p : Put) : Type 0 where
  counts : NoneFell g.before.faults g.now.faults
  store_counts : NoneFell g.before.store_faults g.now.store_faults
  sink_counts : p.faults_before ≤ p.faults_now
  unchanged : KeepsFiles g
  loads : LoadsNamed g

-- a correct answer was put
well_driven : (g : Call) (p : Put) → Answered g p → Stays g p → IsDriven g p
well_driven g p a s = record {
  outcome = Answers a;
  same_behaviour = are_equivalent g p a;
  generated_same = are_generated_equivalent g p a;
  verified_same = are_verified g p a;
  chained_same = are_chained g p a;
  equivalent = says_same g p a;
  differ = says_differ g p a;
  undecided = says_undecided g p a;
  alike = tells_of_alike g p a;
  checked = is_checked g p a;
  compiled = is_compiled g p a;
  in_rows = is_in_rows g p a;
  in_registers = is_in_registers g p a;
  shrunk = is_shrunk g p a;
  chained = is_chained g p a;
  fault = has_cause g p a;
  counts = s.counts;
  store_counts = s.store_counts;
  sink_counts = s.sink_counts;
  unchanged = s.unchanged;
  loads = s.loads;
}

other_than_fine : (s : Status) → s ≡ NoMemory → s ≡ Fine → ⊥
other_than_fine s m e = absurd (let h : NoMemory ≡ Fine = cc (m, e) in cc)

other_than_differ : (s : Status) → s ≡ NoMemory → s ≡ Differ → ⊥
other_than_differ s m e = absurd (let h : NoMemory ≡ Differ = cc (m, e) in cc)

other_than_undecided : (s : Status) → s ≡ NoMemory → s ≡ Undecided → ⊥
other_than_undecided s m e = absurd (let h : NoMemory ≡ Undecided = cc (m, e) in cc)

other_than_fault : (s : Status) → s ≡ NoMemory → s ≡ Fault → ⊥
other_than_fault s m e = absurd (let h : NoMemory ≡ Fault = cc (m, e) in cc)

-- there was no memory: nothing was put
starved : (g : Call) (p : Put) → p.status ≡ NoMemory → p.got_now ≡ p.got_before → IsUnwritten g.asked (file_change g.before g.now) → Stays g p
    → IsDriven g p
starved g p m got files s = record {
  outcome = Starves (record { status = m; got = got; files = files });
  same_behaviour = λ e t. absurd (other_than_fine p.status m e);
  generated_same = λ e t. absurd (other_than_fine p.status m e);
  verified_same = λ e t. absurd (other_than_fine p.status m e);
  chained_same = λ e t. absurd (other_than_fine p.status m e);
  equivalent = λ e t. absurd (other_than_fine p.status m e);
  differ = λ e t. absurd (other_than_differ p.status m e);
  undecided = λ e t. absurd (other_than_undecided p.status m e);
  alike = λ e t. absurd (no_memory_of_pair (subst AnswersPair m e));
  checked = λ e t. absurd (other_than_fine p.status m e);
  compiled = λ e t. absurd (other_than_fine p.status m e);
  in_rows = λ e t. absurd (other_than_fine p.status m e);
  in_registers = λ e t. absurd (other_than_fine p.status m e);
  shrunk = λ e t. absurd (other_than_differ p.status m e);
  chained = λ e t. absurd (other_than_fine p.status m e);
  fault = λ e. absurd (other_than_fault p.status m e);
  counts = s.counts;
  store_counts = s.store_counts;
  sink_counts = s.sink_counts;
  unchanged = s.unchanged;
  loads = s.loads;
}

-- no file was loaded, and none stored
still : (o : Option Asked) (files : FilesTold) (s : Status) (before after : SinkTold) → before.faults ≤ after.faults
    → Stays (call o files files) (put_between s before after)
still o files s before after sink = record {
  counts = λ name. omega arith;
  store_counts = λ name. omega arith;
  sink_counts = sink;
  unchanged = AllKept (λ name. refl);
  loads = at_most_none o 0 (length (files_of o)) files;
}

-- over files that were loaded for what is asked, of which this is given
module _ (o : Option Asked) (given : Result Answer Refusal) (old mid now : FilesTold) (before after : SinkTold) (read : OnlyRead old mid)
    (follows : AnswersBy (IsCorrectInOrder (FollowsFrom o) 0 (call o old mid)) given) (named : LoadsNamed (call o old mid))
    (leaves : Leaves (to_store_given o (answer_in given)) (file_change mid now)) (fell : NoneFell mid.faults now.faults)
    (store_fell : NoneFell mid.store_faults now.store_faults) (same : now.loaded ≡ mid.loaded) (sink : before.faults ≤ after.faults) where
  correct : (answer : Answer) → answer_in given ≡ Some answer → IsCorrectInOrder (FollowsFrom o) 0 (call o old mid) answer
  correct answer is = in_answer (IsCorrectInOrder (FollowsFrom o) 0 (call o old mid)) given answer is follows

  stays : (s : Status) → Stays (call o old now) (put_between s before after)
  stays s = record {
    counts = λ name. omega (arith, read.counts name, fell name);
    store_counts = λ name. omega (arith, read.store_counts name, store_fell name);
    sink_counts = sink;
    unchanged = keeps o old mid now (answer_in given) read fell correct leaves;
    loads = at_most_until o 0 (length (files_of o)) old mid now same named;
  }

  replied : {E : Type 0} (r : Result Status E) → IfOk r (λ s. IsDoneForGiven o (answer_in given) (file_change mid now) (put_between s before after))
      → OnErr r (after.got ≡ before.got) → OnErr r (NotStored (to_store_given o (answer_in given)) (file_change mid now))
      → IsDriven (call o old now) (put_between (end_status r) before after)
  replied (Ok s) ok err unstored = well_driven (call o old now) (put_between s before after)
      (answered o old mid now ok.answer (put_between s before after) read fell same (correct ok.answer ok.is) ok.done) (stays s)
  replied (Err x) ok err unstored = starved (call o old now) (put_between NoMemory before after) refl err
      (unwritten o old mid now (answer_in given) read unstored) (stays NoMemory)

  -- the reply was put to what the words ask
  pub driven : {E : Type 0} (w : Option Asked) (r : Result Status E) → w ≡ o
      → IfOk r (λ s. IsDoneForGiven o (answer_in given) (file_change mid now) (put_between s before after))
      → OnErr r (after.got ≡ before.got) → OnErr r (NotStored (to_store_given o (answer_in given)) (file_change mid now))
      → IsDriven (call w old now) (put_between (end_status r) before after)
  driven w r e ok err unstored = subst (λ k. IsDriven (call k old now) (put_between (end_status r) before after)) (sym e) (replied r ok err unstored)

usage_put : {E : Type 0} (files : FilesTold) (r : Result Status E) (before after : SinkTold)
    → IfOk r (λ s. IsPut (reply Usage None) (status_of Usage) (put_between s before after)) → OnErr r (after.got ≡ before.got) → before.faults ≤ after.faults
    → IsDriven (call None files files) (put_between (end_status r) before after)
usage_put files (Ok s) before after ok err sink = well_driven (call None files files) (put_between s before after)
    (answers_usage files (put_between s before after) ok) (still None files s before after sink)
usage_put files (Err x) before after ok err sink = starved (call None files files) (put_between NoMemory before after) refl err (NoneWritten (λ name. refl))
    (still None files NoMemory before after sink)

-- the words ask nothing, and how the program is used was put
pub driven_usage : {E : Type 0} (w : Option Asked) (files : FilesTold) (r : Result Status E) (before after : SinkTold) → w ≡ None
    → IfOk r (λ s. IsPut (reply Usage None) (status_of Usage) (put_between s before after)) → OnErr r (after.got ≡ before.got) → before.faults ≤ after.faults
    → IsDriven (call w files files) (put_between (end_status r) before after)
driven_usage w files r before after e ok err sink =
    subst (λ k. IsDriven (call k files files) (put_between (end_status r) before after)) (sym e) (usage_put files r before after ok err sink)

-- there was no memory for what the words ask
pub driven_nowhere : (w : Option Asked) (files : FilesTold) (sink : SinkTold) → IsDriven (call w files files) (put_between NoMemory sink sink)
driven_nowhere w files sink = starved (call w files files) (put_between NoMemory sink sink) refl refl (NoneWritten (λ name. refl))
    (still w files NoMemory sink sink (omega arith))
