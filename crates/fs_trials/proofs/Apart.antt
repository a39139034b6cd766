-- Runs that end and runs that don't.
use Rattle.std.proofs.Common.{◌≡◌, ℕ, ℤ, ◌+◌, ◌<◌, ◌≤◌, List, sym, ◌∙◌, ap, subst, inl, inr, arith}
use Rattle.std.specs.Prelude.{Option, None, Some, MatchOption, Result, Ok, Err, IfOk}
use Rattle.std.proofs.lemmas.Bool.{cases_lt}
use Rattle.fs_model.specs.Machines.{Fsmd}
use Rattle.fs_model.specs.Runs.{Inputs}
use Rattle.fs_runs.specs.declared.run.Ended.{Ended}
use Rattle.fs_runs.specs.declared.run.RunStop.{RunStop}
use Rattle.fs_runs.specs.Outcomes.{IsStopped, IsStopOfRun, told_by}
use Rattle.fs_runs.proofs.RunOnce.{one_end, end_or_stop}
use Rattle.fs_run_text.specs.ItemTexts.{SameOutputs}
use Rattle.fs_trials.specs.Pool.{pool_of}
use Rattle.fs_trials.specs.Candidates.{candidate_inputs, stated_inputs}
use Rattle.fs_trials.specs.Differences.{ShowsDifference, DiffersAt, IsEnd, HasNoEnd, AreApart}

-- a run that was stopped has no end
pub no_end : (m : Fsmd) (ins : Inputs) (limit : ℕ) (stop : RunStop) → IsStopped m ins limit stop → IsStopOfRun stop → HasNoEnd m ins limit
no_end m ins limit stop stopped of_run = λ outs steps ends. end_or_stop m ins limit outs steps stop ends stopped of_run

-- what is told of a run, where it has an end and where it has none
pub told_end : (m : Fsmd) (ins : Inputs) (limit : ℕ) (o : Option Ended) (e : Ended) → o ≡ Some e
    → MatchOption o (HasNoEnd m ins limit) (IsEnd m ins limit) → IsEnd m ins limit e
told_end m ins limit o e is told = subst (λ o. MatchOption o (HasNoEnd m ins limit) (IsEnd m ins limit)) is told

pub told_no_end : (m : Fsmd) (ins : Inputs) (limit : ℕ) (o : Option Ended) → o ≡ None
    → MatchOption o (HasNoEnd m ins limit) (IsEnd m ins limit) → HasNoEnd m ins limit
told_no_end m ins limit o is told = subst (λ o. MatchOption o (HasNoEnd m ins limit) (IsEnd m ins limit)) is told

pub left_has_none : (a b : Fsmd) (ins : Inputs) (limit : ℕ) → HasNoEnd a ins limit → ¬ ShowsDifference a b ins limit
left_has_none a b ins limit none d = none d.left d.left_steps d.left_ends

pub right_has_none : (a b : Fsmd) (ins : Inputs) (limit : ℕ) → HasNoEnd b ins limit → ¬ ShowsDifference a b ins limit
right_has_none a b ins limit none d = none d.right d.right_steps d.right_ends

-- runs that end with the same outputs show no difference
pub same_shows_none : (a b : Fsmd) (ins : Inputs) (limit : ℕ) (left right : Ended) → IsEnd a ins limit left → IsEnd b ins limit right
    → SameOutputs (told_by a left.outputs.items) (told_by b right.outputs.items) → ¬ ShowsDifference a b ins limit
same_shows_none a b ins limit left right l r same d =
    let lefts = (one_end a ins limit d.left (told_by a left.outputs.items) d.left_steps left.steps d.left_ends l.ends).0 in
    let rights = (one_end b ins limit d.right (told_by b right.outputs.items) d.right_steps right.steps d.right_ends r.ends).0 in
    d.differ (λ name. ap (λ o. o name) lefts ∙ same name ∙ sym (ap (λ o. o name) rights))

-- runs that are apart show a difference
pub apart_shows : (a b : Fsmd) (ins : Inputs) (limit : ℕ) (left right : Ended) → AreApart a b ins limit left right → ShowsDifference a b ins limit
apart_shows a b ins limit left right d = record {
  left = told_by a left.outputs.items;
  right = told_by b right.outputs.items;
  left_steps = left.steps;
  right_steps = right.steps;
  left_ends = d.left_end.ends;
  right_ends = d.right_end.ends;
  differ = d.differ;
}

-- inputs of candidate j of the pool of two machines are those of their stated candidate j
pub stated_here : (a b : Fsmd) (j : ℕ) (pool : List ℤ) (ins : Inputs) → ins ≡ candidate_inputs pool j a → pool ≡ pool_of a b → ins ≡ stated_inputs a b j
stated_here a b j pool ins e f = e ∙ ap (λ p. candidate_inputs p j a) f

-- what inputs do not show, their candidate does not
pub at_candidate : (a b : Fsmd) (limit j : ℕ) (ins : Inputs) → ins ≡ stated_inputs a b j → ¬ ShowsDifference a b ins limit → ¬ DiffersAt a b limit j
at_candidate a b limit j ins e none = subst (λ x. ¬ ShowsDifference a b x limit) e none

-- what inputs show, their candidate does
pub shown_at : (a b : Fsmd) (limit j : ℕ) (ins : Inputs) (left right : Ended) → ins ≡ stated_inputs a b j → AreApart a b ins limit left right
    → DiffersAt a b limit j
shown_at a b limit j ins left right e d = subst (λ x. ShowsDifference a b x limit) e (apart_shows a b ins limit left right d)

pub holds_below_next : (P : ℕ → Type 0) (j : ℕ) → ((i : ℕ) → i < j → P i) → P j → (i : ℕ) → i < j + 1 → P i
holds_below_next P j before here i h =
    elim (cases_lt i j) as (λ _. P i) [
      | inl less ↦ before i less
      | inr more ↦ let same : j ≡ i = omega arith in subst P same here
    ]

pub all_below : (P : ℕ → Type 0) (j count total : ℕ) → ((i : ℕ) → i < j → P i) → count ≤ j → count ≡ total → (i : ℕ) → i < total → P i
all_below P j count total before done same i h = before i (omega arith)

-- what is none of the first so many, where these are all, is none of all
pub none_of_all : {F E : Type 0} (P : ℕ → Type 0) (most total : ℕ) (r : Result (Option F) E) → most ≡ total
    → IfOk r (λ o. o ≡ None → (i : ℕ) → i < most → i < total → P i) → IfOk r (λ o. o ≡ None → (i : ℕ) → i < total → P i)
none_of_all P most total (Ok o) same h = λ is i below. h is i (subst (λ n. i < n) (sym same) below) below
none_of_all P most total (Err e) same h = tt
