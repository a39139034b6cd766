-- The answers to runs, by how these end.
use Rattle.std.proofs.Common.{◌≡◌, ℕ, Bool, true, false, cond, List, refl, sym, subst}
use Rattle.std.specs.Bool.{Decides}
use Rattle.std.specs.Prelude.{Result, IfOk}
use Rattle.std.proofs.lemmas.Bool.{false≢true}
use Rattle.fs_model.specs.Machines.{Fsmd}
use Rattle.fs_model.specs.Runs.{Inputs}
use Rattle.fs_runs.specs.declared.run.RunStop.{RunStop}
use Rattle.fs_runs.specs.Outcomes.{output_names, EndsWith, IsStopped}
use Rattle.fs_run_text.specs.declared.ends.Side.TheVariants.{Only, Left, Right}
use Rattle.fs_run_text.specs.ItemTexts.{SameOutputs}
use Rattle.fs_runs.specs.Outcomes.{Outputs}
use Rattle.fs_run_text.specs.EndTexts.{IsEndText, IsReplayText}
use Rattle.fsmd_replies.specs.declared.answer.Answer.{Answer}
use Rattle.fsmd_replies.specs.declared.answer.Answer.TheVariants.{Text, Differs}
use Rattle.fsmd_answers.specs.RunAnswers.{IsOfStop, IsOfRun, Ended, Stopped}
use Rattle.fsmd_answers.specs.Replays.{IsOfReplay, LeftStopped, RightStopped, Agreed, Differed}
use Rattle.fsmd_answers.proofs.Maps.{ok_map}

pub run_stopped : {E : Type 0} (limit : ℕ) (m : Fsmd) (ins : Inputs) (stop : RunStop) (r : Result Answer E) → IsStopped m ins limit stop
    → IfOk r (IsOfStop Only stop) → IfOk r (IsOfRun limit m ins)
run_stopped limit m ins stop r s t = ok_map (IsOfStop Only stop) (IsOfRun limit m ins) (λ x u. Stopped stop s u) r t

pub left_stopped : {E : Type 0} (limit : ℕ) (a b : Fsmd) (ins : Inputs) (stop : RunStop) (r : Result Answer E) → IsStopped a ins limit stop
    → IfOk r (IsOfStop Left stop) → IfOk r (IsOfReplay limit a b ins)
left_stopped limit a b ins stop r s t = ok_map (IsOfStop Left stop) (IsOfReplay limit a b ins) (λ x u. LeftStopped stop s u) r t

pub right_stopped : {E : Type 0} (limit : ℕ) (a b : Fsmd) (ins : Inputs) (outs : Outputs) (steps : ℕ) (stop : RunStop) (r : Result Answer E)
    → EndsWith a ins limit outs steps → IsStopped b ins limit stop
    → IfOk r (IsOfStop Right stop) → IfOk r (IsOfReplay limit a b ins)
right_stopped limit a b ins outs steps stop r e s t = ok_map (IsOfStop Right stop) (IsOfReplay limit a b ins) (λ x u. RightStopped outs steps e stop s u) r t

pub run_ended : (limit : ℕ) (m : Fsmd) (ins : Inputs) (outs : Outputs) (steps : ℕ) (text lines : List ℕ) → EndsWith m ins limit outs steps
    → IsEndText (output_names m.variables) outs steps text → lines ≡ text → IsOfRun limit m ins (Text lines)
run_ended limit m ins outs steps text lines ends shown e =
    Ended outs steps ends (record { lines = lines; holds = subst (IsEndText (output_names m.variables) outs steps) (sym e) shown; is = refl })

either_answer : (limit : ℕ) (a b : Fsmd) (ins : Inputs) (left right : Outputs) (m n : ℕ) (same : Bool) (lines : List ℕ) → EndsWith a ins limit left m
    → EndsWith b ins limit right n → Decides same (SameOutputs left right)
    → IsReplayText (output_names a.variables) left right lines → IsOfReplay limit a b ins (cond same (Text lines) (Differs lines))
either_answer limit a b ins left right m n true lines le re d shown =
    Agreed left right (record { left_steps = m; right_steps = n; left_ends = le; right_ends = re }) (d.0 refl)
    (record { lines = lines; holds = shown; is = refl })
either_answer limit a b ins left right m n false lines le re d shown =
    Differed left right (record { left_steps = m; right_steps = n; left_ends = le; right_ends = re }) (λ s. false≢true (d.1 s))
    (record { lines = lines; holds = shown; is = refl })

pub both_ended : (limit : ℕ) (a b : Fsmd) (ins : Inputs) (left right : Outputs) (m n : ℕ) (same : Bool) (text lines : List ℕ) (answer : Answer)
    → EndsWith a ins limit left m → EndsWith b ins limit right n → Decides same (SameOutputs left right)
    → IsReplayText (output_names a.variables) left right text → lines ≡ text → answer ≡ cond same (Text lines) (Differs lines) → IsOfReplay limit a b ins answer
both_ended limit a b ins left right m n same text lines answer le re d shown e is =
    subst (IsOfReplay limit a b ins) (sym is)
    (either_answer limit a b ins left right m n same lines le re d (subst (IsReplayText (output_names a.variables) left right) (sym e) shown))
