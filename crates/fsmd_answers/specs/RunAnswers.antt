-- Which answer a run gets.
use Rattle.std.specs.Prelude.{ℕ}
use Rattle.fs_model.specs.Machines.{Fsmd}
use Rattle.fs_model.specs.Runs.{Inputs}
use Rattle.fs_runs.specs.declared.run.RunStop.{RunStop}
use Rattle.fs_runs.specs.Outcomes.{Outputs, output_names, EndsWith, IsStopped}
use Rattle.fs_run_text.specs.declared.ends.Side.{Side}
use Rattle.fs_run_text.specs.declared.ends.Side.TheVariants.{Only}
use Rattle.fs_run_text.specs.EndTexts.{IsEndText, IsStopText}
use Rattle.fsmd_replies.specs.declared.answer.Answer.{Answer}
use Rattle.fsmd_replies.specs.declared.answer.Answer.TheVariants.{Text, Undecided}
use Rattle.fsmd_answers.specs.LineAnswers.{HasLines}

-- the answer to a run that stopped so
abbrev pub IsOfStop : Side → RunStop → Answer → Type 0
IsOfStop side stop answer = HasLines (IsStopText side stop) Undecided answer

-- the answer to a run of at most so many steps from these inputs
pub data IsOfRun (limit : ℕ) (m : Fsmd) (ins : Inputs) (answer : Answer) : Type 0 where
  Ended : (outs : Outputs) (steps : ℕ) → EndsWith m ins limit outs steps
      → HasLines (IsEndText (output_names m.variables) outs steps) Text answer → IsOfRun limit m ins answer
  Stopped : (stop : RunStop) → IsStopped m ins limit stop → IsOfStop Only stop answer → IsOfRun limit m ins answer
