-- Runs of two machines on the same inputs get one answer.
use Rattle.std.proofs.Common.{◌≡◌, ℕ, List, sym, ◌∙◌, ap, subst}
use Rattle.fs_model.specs.Machines.{Fsmd}
use Rattle.fs_model.specs.Runs.{Inputs}
use Rattle.fs_runs.specs.Outcomes.{Outputs, output_names}
use Rattle.fs_run_text.specs.declared.ends.Side.TheVariants as sides
use Rattle.fs_run_text.specs.ItemTexts.{SameOutputs}
use Rattle.fs_run_text.specs.EndTexts.{IsReplayText}
use Rattle.fs_run_text.proofs.Once.{replay_once}
use Rattle.fsmd_replies.specs.declared.answer.Answer.{Answer}
use Rattle.fsmd_replies.specs.declared.answer.Answer.TheVariants.{Text, Differs}
use Rattle.fsmd_tool.specs.LineAnswers.{HasLines}
use Rattle.fsmd_tool.specs.Replays.{BothEnd, IsOfReplay, LeftStopped, RightStopped, Agreed, Differed}
use Rattle.fsmd_tool_laws.proofs.Runs.{stops_once, not_stopped, ends_same}

-- the answer to two runs that ended
data Compares (names : List (List ℕ)) (left right : Outputs) (answer : Answer) : Type 0 where
  Same : SameOutputs left right → HasLines (IsReplayText names left right) Text answer → Compares names left right answer
  Other : ¬ SameOutputs left right → HasLines (IsReplayText names left right) Differs answer → Compares names left right answer

compares_once : (names : List (List ℕ)) (left right : Outputs) (x y : Answer) → Compares names left right x → Compares names left right y → x ≡ y
compares_once names left right x y (Same s p) (Same t q) = p.is ∙ ap Text (replay_once names left right p.lines q.lines p.holds q.holds) ∙ sym q.is
compares_once names left right x y (Same s p) (Other t q) = absurd (t s)
compares_once names left right x y (Other s p) (Same t q) = absurd (s t)
compares_once names left right x y (Other s p) (Other t q) = p.is ∙ ap Differs (replay_once names left right p.lines q.lines p.holds q.holds) ∙ sym q.is

both_once : (limit : ℕ) (a b : Fsmd) (ins : Inputs) (l r m s : Outputs) (x y : Answer) → BothEnd limit a b ins l r → BothEnd limit a b ins m s
    → Compares (output_names a.variables) l r x → Compares (output_names a.variables) m s y → x ≡ y
both_once limit a b ins l r m s x y e f p q =
    let left : l ≡ m = ends_same limit a ins l m e.left_steps f.left_steps e.left_ends f.left_ends in
    let right : r ≡ s = ends_same limit b ins r s e.right_steps f.right_steps e.right_ends f.right_ends in
    let names = output_names a.variables in
    compares_once names m s x y (subst (λ o. Compares names o s x) left (subst (λ o. Compares names l o x) right p)) q

-- both runs ended
record Ended (limit : ℕ) (a b : Fsmd) (ins : Inputs) (answer : Answer) : Type 0 where
  left : Outputs
  right : Outputs
  ends : BothEnd limit a b ins left right
  compares : Compares (output_names a.variables) left right answer

ended_once : (limit : ℕ) (a b : Fsmd) (ins : Inputs) (x y : Answer) → Ended limit a b ins x → IsOfReplay limit a b ins y → x ≡ y
ended_once limit a b ins x y p (LeftStopped r q u) = absurd (not_stopped limit a ins p.left p.ends.left_steps sides.Left r y p.ends.left_ends q u)
ended_once limit a b ins x y p (RightStopped o n e r q u) = absurd (not_stopped limit b ins p.right p.ends.right_steps sides.Right r y p.ends.right_ends q u)
ended_once limit a b ins x y p (Agreed l r e s t) = both_once limit a b ins p.left p.right l r x y p.ends e p.compares (Same s t)
ended_once limit a b ins x y p (Differed l r e s t) = both_once limit a b ins p.left p.right l r x y p.ends e p.compares (Other s t)

pub replay_answer_once : (limit : ℕ) (a b : Fsmd) (ins : Inputs) (x y : Answer) → IsOfReplay limit a b ins x → IsOfReplay limit a b ins y → x ≡ y
replay_answer_once limit a b ins x y (LeftStopped s p t) (LeftStopped r q u) = stops_once limit a ins sides.Left s r x y p q t u
replay_answer_once limit a b ins x y (LeftStopped s p t) (RightStopped o n e r q u) = absurd (not_stopped limit a ins o n sides.Left s x e p t)
replay_answer_once limit a b ins x y (LeftStopped s p t) (Agreed l r e c d) = absurd (not_stopped limit a ins l e.left_steps sides.Left s x e.left_ends p t)
replay_answer_once limit a b ins x y (LeftStopped s p t) (Differed l r e c d) = absurd (not_stopped limit a ins l e.left_steps sides.Left s x e.left_ends p t)
replay_answer_once limit a b ins x y (RightStopped o n e s p t) (LeftStopped r q u) = absurd (not_stopped limit a ins o n sides.Left r y e q u)
replay_answer_once limit a b ins x y (RightStopped o n e s p t) (RightStopped k m f r q u) = stops_once limit b ins sides.Right s r x y p q t u
replay_answer_once limit a b ins x y (RightStopped o n e s p t) (Agreed l r f c d) =
    absurd (not_stopped limit b ins r f.right_steps sides.Right s x f.right_ends p t)
replay_answer_once limit a b ins x y (RightStopped o n e s p t) (Differed l r f c d) =
    absurd (not_stopped limit b ins r f.right_steps sides.Right s x f.right_ends p t)
replay_answer_once limit a b ins x y (Agreed l r e s t) q = ended_once limit a b ins x y (record { left = l; right = r; ends = e; compares = Same s t }) q
replay_answer_once limit a b ins x y (Differed l r e s t) q = ended_once limit a b ins x y (record { left = l; right = r; ends = e; compares = Other s t }) q
