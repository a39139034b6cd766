-- Which answer runs of two machines from the same inputs get.
use Rattle.std.specs.Prelude.{ℕ}
use Rattle.fs_model.specs.Machines.{Fsmd}
use Rattle.fs_model.specs.Runs.{Inputs}
use Rattle.fs_runs.specs.declared.run.RunStop.{RunStop}
use Rattle.fs_runs.specs.Outcomes.{output_names, EndsWith, IsStopped}
use Rattle.fs_run_text.specs.declared.ends.Side.TheVariants as sides
use Rattle.fs_run_text.specs.ItemTexts.{SameOutputs}
use Rattle.fs_runs.specs.Outcomes.{Outputs}
use Rattle.fs_run_text.specs.EndTexts.{IsReplayText}
use Rattle.fsmd_replies.specs.declared.answer.Answer.{Answer}
use Rattle.fsmd_replies.specs.declared.answer.Answer.TheVariants.{Text, Differs}
use Rattle.fsmd_answers.specs.LineAnswers.{HasLines}
use Rattle.fsmd_answers.specs.RunAnswers.{IsOfStop}

-- both runs end within so many steps, with these outputs
pub record BothEnd (limit : ℕ) (a b : Fsmd) (ins : Inputs) (left right : Outputs) : Type 0 where
  pub left_steps : ℕ
  pub right_steps : ℕ
  pub left_ends : EndsWith a ins limit left left_steps
  pub right_ends : EndsWith b ins limit right right_steps

-- the answer to runs of two machines of at most so many steps from these inputs, the left one first
pub data IsOfReplay (limit : ℕ) (a b : Fsmd) (ins : Inputs) (answer : Answer) : Type 0 where
  LeftStopped : (stop : RunStop) → IsStopped a ins limit stop → IsOfStop sides.Left stop answer → IsOfReplay limit a b ins answer
  RightStopped : (outs : Outputs) (steps : ℕ) → EndsWith a ins limit outs steps → (stop : RunStop) → IsStopped b ins limit stop
      → IsOfStop sides.Right stop answer → IsOfReplay limit a b ins answer
  Agreed : (left right : Outputs) → BothEnd limit a b ins left right → SameOutputs left right
      → HasLines (IsReplayText (output_names a.variables) left right) Text answer → IsOfReplay limit a b ins answer
  Differed : (left right : Outputs) → BothEnd limit a b ins left right → ¬ SameOutputs left right
      → HasLines (IsReplayText (output_names a.variables) left right) Differs answer → IsOfReplay limit a b ins answer
