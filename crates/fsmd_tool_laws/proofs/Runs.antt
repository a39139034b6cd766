-- A run of a machine on inputs gets one answer.
use Rattle.std.proofs.Common.{◌≡◌, ℕ, sym, ◌∙◌, ap, subst}
use Rattle.fs_model.specs.Machines.{Fsmd}
use Rattle.fs_model.specs.Runs.{Inputs}
use Rattle.fs_runs.specs.declared.run.RunStop.{RunStop}
use Rattle.fs_runs.specs.Outcomes.{Outputs, output_names, EndsWith, IsStopped}
use Rattle.fs_runs.proofs.RunOnce.{one_end, one_stop, end_or_stop}
use Rattle.fs_run_text.specs.declared.ends.Side.{Side}
use Rattle.fs_run_text.specs.declared.ends.Side.TheVariants.{Only}
use Rattle.fs_run_text.specs.EndTexts.{IsEndText, IsStopText}
use Rattle.fs_run_text.proofs.Once.{end_once, stop_once}
use Rattle.fs_run_text.proofs.RunOnce.{told_of_run}
use Rattle.fsmd_replies.specs.declared.answer.Answer.{Answer}
use Rattle.fsmd_replies.specs.declared.answer.Answer.TheVariants.{Text, Undecided}
use Rattle.fsmd_tool.specs.LineAnswers.{HasLines}
use Rattle.fsmd_tool.specs.RunAnswers.{IsOfStop, IsOfRun, Ended, Stopped}

-- the answers of stops of one run are one
pub stops_once : (limit : ℕ) (m : Fsmd) (ins : Inputs) (side : Side) (s r : RunStop) (x y : Answer) → IsStopped m ins limit s → IsStopped m ins limit r
    → IsOfStop side s x → IsOfStop side r y → x ≡ y
stops_once limit m ins side s r x y a b p q =
    let same : s ≡ r = one_stop m ins limit s r a b (told_of_run side s p.lines p.holds) (told_of_run side r q.lines q.holds) in
    p.is ∙ ap Undecided (stop_once side r p.lines q.lines (subst (λ z. IsStopText side z p.lines) same p.holds) q.holds) ∙ sym q.is

pub ends_same : (limit : ℕ) (m : Fsmd) (ins : Inputs) (o p : Outputs) (n k : ℕ) → EndsWith m ins limit o n → EndsWith m ins limit p k → o ≡ p
ends_same limit m ins o p n k a b = (one_end m ins limit o p n k a b).0

ends_once : (limit : ℕ) (m : Fsmd) (ins : Inputs) (o p : Outputs) (n k : ℕ) (x y : Answer) → EndsWith m ins limit o n → EndsWith m ins limit p k
    → HasLines (IsEndText (output_names m.variables) o n) Text x → HasLines (IsEndText (output_names m.variables) p k) Text y → x ≡ y
ends_once limit m ins o p n k x y a b s t =
    let names = output_names m.variables in
    let same = one_end m ins limit o p n k a b in
    let here : IsEndText names p k s.lines = subst (λ c. IsEndText names p c s.lines) same.1 (subst (λ w. IsEndText names w n s.lines) same.0 s.holds) in
    s.is ∙ ap Text (end_once names p k s.lines t.lines here t.holds) ∙ sym t.is

pub not_stopped : (limit : ℕ) (m : Fsmd) (ins : Inputs) (outs : Outputs) (steps : ℕ) (side : Side) (stop : RunStop) (x : Answer)
    → EndsWith m ins limit outs steps → IsStopped m ins limit stop → IsOfStop side stop x → ⊥
not_stopped limit m ins outs steps side stop x a b p = end_or_stop m ins limit outs steps stop a b (told_of_run side stop p.lines p.holds)

pub run_answer_once : (limit : ℕ) (m : Fsmd) (ins : Inputs) (x y : Answer) → IsOfRun limit m ins x → IsOfRun limit m ins y → x ≡ y
run_answer_once limit m ins x y (Ended o n a s) (Ended p k b t) = ends_once limit m ins o p n k x y a b s t
run_answer_once limit m ins x y (Ended o n a s) (Stopped r b t) = absurd (not_stopped limit m ins o n Only r y a b t)
run_answer_once limit m ins x y (Stopped r a s) (Ended p k b t) = absurd (not_stopped limit m ins p k Only r x b a s)
run_answer_once limit m ins x y (Stopped r a s) (Stopped q b t) = stops_once limit m ins Only r q x y a b s t
