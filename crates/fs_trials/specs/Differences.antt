-- Inputs that show a difference of two machines.
use Rattle.std.specs.Prelude.{◌≡◌, ℕ, length}
use Rattle.fs_model.specs.Machines.{Fsmd}
use Rattle.fs_model.specs.Runs.{Inputs}
use Rattle.fs_runs.specs.declared.run.Ended.{Ended}
use Rattle.fs_runs.specs.Outcomes.{Outputs, EndsWith, HoldsEach, output_names, told_by}
use Rattle.fs_run_text.specs.ItemTexts.{SameOutputs}
use Rattle.fs_trials.specs.Candidates.{stated_inputs}

-- both runs end within a limit of steps and touch no number outside 128 bits, and an output differs
pub record ShowsDifference (a b : Fsmd) (ins : Inputs) (limit : ℕ) : Type 0 where
  pub left : Outputs
  pub right : Outputs
  pub left_steps : ℕ
  pub right_steps : ℕ
  pub left_ends : EndsWith a ins limit left left_steps
  pub right_ends : EndsWith b ins limit right right_steps
  pub differ : ¬ SameOutputs left right

-- a stated candidate shows a difference
abbrev pub DiffersAt : Fsmd → Fsmd → (limit j : ℕ) → Type 0
DiffersAt a b limit j = ShowsDifference a b (stated_inputs a b j) limit

-- what is answered of a run that ends: it ends so, and each output holds something
pub record IsEnd (m : Fsmd) (ins : Inputs) (limit : ℕ) (e : Ended) : Type 0 where
  pub ends : EndsWith m ins limit (told_by m e.outputs.items) e.steps
  pub count : length e.outputs.items ≡ length (output_names m.variables)
  pub holds : HoldsEach (told_by m e.outputs.items) (output_names m.variables)

-- a run does not end so
abbrev pub HasNoEnd : Fsmd → Inputs → ℕ → Type 0
HasNoEnd m ins limit = (outs : Outputs) (steps : ℕ) → ¬ EndsWith m ins limit outs steps

-- how the runs of two machines end, where an output differs
pub record AreApart (a b : Fsmd) (ins : Inputs) (limit : ℕ) (left right : Ended) : Type 0 where
  pub left_end : IsEnd a ins limit left
  pub right_end : IsEnd b ins limit right
  pub differ : ¬ SameOutputs (told_by a left.outputs.items) (told_by b right.outputs.items)
