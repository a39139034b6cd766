-- Counterexamples: machines with the same behaviour have none, and others at most one.
use Rattle.std.proofs.Common.{◌≡◌, ℕ, ◌<◌, List, sym, ◌∙◌, ap, subst, arith}
use Rattle.fs_model.specs.SoundMachines.{IsSound}
use Rattle.fs_model.specs.Machines.{Fsmd}
use Rattle.fs_model.specs.Runs.{Inputs, Content, SameBehaviour, start, output}
use Rattle.fs_model.proofs.Determined.{goes_once}
use Rattle.fs_runs.specs.declared.run.Ended.{Ended}
use Rattle.fs_runs.specs.Outcomes.{Outputs, output_names, told_by}
use Rattle.fs_runs.proofs.RunOnce.{one_end}
use Rattle.fs_run_text.specs.ItemTexts.{input_names}
use Rattle.fs_run_text.specs.EndTexts.{IsCounterexampleText}
use Rattle.fs_run_text.proofs.Once.{counterexample_once}
use Rattle.fs_trials.specs.Candidates.{stated_count, stated_contents, stated_inputs}
use Rattle.fs_trials.specs.Differences.{ShowsDifference, DiffersAt, AreApart}
use Rattle.fsmd_pair_answers.specs.PairAnswers.{IsCounterexample}
use Rattle.fsmd_pair_answers.specs.PairAnswerLaws.{SameShowNothing}

-- what the first stated candidate that shows a difference tells is a counterexample
pub is_counterexample : (limit : ℕ) (a b : Fsmd) (j : ℕ) (ins : Inputs) (contents : List Content) (left right : Ended) (lines : List ℕ)
    → IsSound a → IsSound b
    → j < stated_count a b → ins ≡ stated_inputs a b j → contents ≡ stated_contents a b j → AreApart a b ins limit left right
    → ((i : ℕ) → i < j → ¬ DiffersAt a b limit i)
    → IsCounterexampleText (input_names a.variables) contents (output_names a.variables) (told_by a left.outputs.items) (told_by b right.outputs.items) lines
    → IsCounterexample limit a b lines
is_counterexample limit a b j ins contents left right lines left_sound right_sound among is are apart first told =
    let there : AreApart a b (stated_inputs a b j) limit left right = subst (λ (i : Inputs). AreApart a b i limit left right) is apart in
    record {
      left_sound = left_sound;
      right_sound = right_sound;
      number = j;
      among = among;
      shows = record {
        left = told_by a left.outputs.items;
        right = told_by b right.outputs.items;
        left_steps = left.steps;
        right_steps = right.steps;
        left_ends = there.left_end.ends;
        right_ends = there.right_end.ends;
        differ = there.differ;
      };
      first = first;
      told =
          subst
          (λ cs. IsCounterexampleText (input_names a.variables) cs (output_names a.variables) (told_by a left.outputs.items)
          (told_by b right.outputs.items) lines) are told;
    }

no_difference : (a b : Fsmd) (ins : Inputs) (limit : ℕ) → SameBehaviour a b → ShowsDifference a b ins limit → ⊥
no_difference a b ins limit same d =
    let r = same.forth ins d.left d.left_steps d.left_ends.run in
    let once = goes_once b b.reset (start b ins) r.1.end d.right_ends.run.end r.0 d.right_steps r.1.goes d.right_ends.run.goes in
    d.differ (λ name. sym (r.1.gives name) ∙ ap (λ s. output b s name) once.1 ∙ d.right_ends.run.gives name)

pub same_show_nothing : SameShowNothing
same_show_nothing limit a b j same d = no_difference a b (stated_inputs a b j) limit same d

abbrev Tells : (limit : ℕ) (a b : Fsmd) (j : ℕ) → DiffersAt a b limit j → List ℕ → Type 0
Tells limit a b j d lines = IsCounterexampleText (input_names a.variables) (stated_contents a b j) (output_names a.variables) d.left d.right lines

told_once : (limit : ℕ) (a b : Fsmd) (j : ℕ) (d e : DiffersAt a b limit j) (l k : List ℕ) → Tells limit a b j d l → Tells limit a b j e k → l ≡ k
told_once limit a b j d e l k p q =
    let ins = stated_inputs a b j in
    let left : d.left ≡ e.left = (one_end a ins limit d.left e.left d.left_steps e.left_steps d.left_ends e.left_ends).0 in
    let right : d.right ≡ e.right = (one_end b ins limit d.right e.right d.right_steps e.right_steps d.right_ends e.right_ends).0 in
    let contents = stated_contents a b j in
    let names = output_names a.variables in
    counterexample_once (input_names a.variables) contents names e.left e.right l k
    (subst (λ (o : Outputs). IsCounterexampleText (input_names a.variables) contents names e.left o l) right
    (subst (λ (o : Outputs). IsCounterexampleText (input_names a.variables) contents names o d.right l) left p))
    q

same_number : (limit : ℕ) (a b : Fsmd) (l k : List ℕ) (x : IsCounterexample limit a b l) (y : IsCounterexample limit a b k) → x.number ≡ y.number
same_number limit a b l k x y =
    let not_before : x.number < y.number → ⊥ = λ h. y.first x.number h x.shows in
    let not_after : y.number < x.number → ⊥ = λ h. x.first y.number h y.shows in
    omega arith

pub one_counterexample : (limit : ℕ) (a b : Fsmd) (l k : List ℕ) → IsCounterexample limit a b l → IsCounterexample limit a b k → l ≡ k
one_counterexample limit a b l k x y =
    subst (λ j. (e : DiffersAt a b limit j) → Tells limit a b j e k → l ≡ k) (same_number limit a b l k x y)
    (λ e q. told_once limit a b x.number x.shows e l k x.told q) y.shows y.told
