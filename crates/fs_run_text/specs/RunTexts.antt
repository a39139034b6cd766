-- The text of what a run of a machine answers.
use Rattle.std.specs.Prelude.{ℕ, ◌⊎◌, List}
use Rattle.fs_model.specs.Machines.{Fsmd}
use Rattle.fs_model.specs.Runs.{Inputs}
use Rattle.fs_runs.specs.declared.run.RunStop.{RunStop}
use Rattle.fs_runs.specs.Outcomes.{Outputs, output_names, EndsWith, IsStopped}
use Rattle.fs_run_text.specs.declared.ends.Side.TheVariants.{Only}
use Rattle.fs_run_text.specs.EndTexts.{IsEndText, IsStopText}

-- the run ends, and this is the text of its end
pub record EndsAs (m : Fsmd) (ins : Inputs) (limit : ℕ) (text : List ℕ) : Type 0 where
  pub outs : Outputs
  pub steps : ℕ
  pub ends : EndsWith m ins limit outs steps
  pub told : IsEndText (output_names m.variables) outs steps text

-- the run is stopped, and this is the text of the stop
pub record StopsAs (m : Fsmd) (ins : Inputs) (limit : ℕ) (text : List ℕ) : Type 0 where
  pub stop : RunStop
  pub stopped : IsStopped m ins limit stop
  pub told : IsStopText Only stop text

-- the text of a run of a machine on inputs, of at most so many steps
abbrev pub IsRunText : Fsmd → Inputs → ℕ → List ℕ → Type 0
IsRunText m ins limit text = EndsAs m ins limit text ⊎ StopsAs m ins limit text
