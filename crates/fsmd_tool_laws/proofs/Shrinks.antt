-- Inputs that are made small get one answer.
use Rattle.std.proofs.Common.{◌≡◌, ℕ, List, sym, ◌∙◌, ap, subst}
use Rattle.fs_model.specs.Machines.{Fsmd}
use Rattle.fs_model.specs.Runs.{Inputs, Content}
use Rattle.fs_stores.specs.InputValues.{input_signatures}
use Rattle.fs_runs.specs.Outcomes.{Outputs, output_names}
use Rattle.fs_run_text.specs.ItemTexts.{input_names}
use Rattle.fs_run_text.specs.EndTexts.{IsCounterexampleText}
use Rattle.fs_run_text.proofs.Once.{counterexample_once}
use Rattle.fs_trials.specs.Candidates.{inputs_told}
use Rattle.hls_shrink.specs.Shrunk.{ShowDifference}
use Rattle.hls_shrink.specs.Given.{given_contents}
use Rattle.hls_shrink.proofs.Unique.{end_once}
use Rattle.fsmd_replies.specs.declared.answer.Answer.{Answer}
use Rattle.fsmd_replies.specs.declared.answer.Answer.TheVariants.{Differs}
use Rattle.fsmd_tool.specs.LineAnswers.{HasLines}
use Rattle.fsmd_tool.specs.Shrinks.{IsSmallText, IsOfShrink, Smaller, Replayed}
use Rattle.fsmd_tool_laws.proofs.Runs.{ends_same}
use Rattle.fsmd_tool_laws.proofs.Replays.{replay_answer_once}

-- the text of a counterexample, by what both machines output
abbrev Tells : Fsmd → (cs : List Content) (left right : Outputs) → List ℕ → Type 0
Tells a cs left right lines = IsCounterexampleText (input_names a.variables) cs (output_names a.variables) left right lines

told_once : (limit : ℕ) (a b : Fsmd) (cs : List Content) (l k : List ℕ) → IsSmallText limit a b cs l → IsSmallText limit a b cs k → l ≡ k
told_once limit a b cs l k p q =
    let ins : Inputs = inputs_told (input_signatures a.variables) cs in
    let left : p.shows.left ≡ q.shows.left = ends_same limit a ins p.shows.left q.shows.left p.shows.left_steps q.shows.left_steps p.shows.left_ends
    q.shows.left_ends in
    let right : p.shows.right ≡ q.shows.right = ends_same limit b ins p.shows.right q.shows.right p.shows.right_steps q.shows.right_steps p.shows.right_ends
    q.shows.right_ends in
    let here : Tells a cs q.shows.left q.shows.right l = subst (λ (o : Outputs). Tells a cs q.shows.left o l) right
    (subst (λ (o : Outputs). Tells a cs o p.shows.right l) left p.told) in
    counterexample_once (input_names a.variables) cs (output_names a.variables) q.shows.left q.shows.right l k here q.told

small_once : (limit : ℕ) (a b : Fsmd) (cs : List Content) (x y : Answer) → HasLines (IsSmallText limit a b cs) Differs x
    → HasLines (IsSmallText limit a b cs) Differs y → x ≡ y
small_once limit a b cs x y p q = p.is ∙ ap Differs (told_once limit a b cs p.lines q.lines p.holds q.holds) ∙ sym q.is

pub shrink_answer_once : (limit : ℕ) (a b : Fsmd) (ins : Inputs) (x y : Answer) → IsOfShrink limit a b ins x → IsOfShrink limit a b ins y → x ≡ y
shrink_answer_once limit a b ins x y (Smaller d e r p) (Smaller f h s q) =
    let same : e ≡ h = end_once (ShowDifference a b limit) (given_contents a ins) e h r s in
    small_once limit a b h x y (subst (λ cs. HasLines (IsSmallText limit a b cs) Differs x) same p) q
shrink_answer_once limit a b ins x y (Smaller d e r p) (Replayed n q) = absurd (n d)
shrink_answer_once limit a b ins x y (Replayed n p) (Smaller d e r q) = absurd (n d)
shrink_answer_once limit a b ins x y (Replayed n p) (Replayed k q) = replay_answer_once limit a b ins x y p q
