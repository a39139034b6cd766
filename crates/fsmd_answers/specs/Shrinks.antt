-- Which answer inputs get that are to be made small.
use Rattle.std.specs.Prelude.{ℕ, List}
use Rattle.fs_model.specs.Machines.{Fsmd}
use Rattle.fs_model.specs.Runs.{Inputs, Content}
use Rattle.fs_runs.specs.Outcomes.{output_names}
use Rattle.fs_run_text.specs.ItemTexts.{input_names}
use Rattle.fs_run_text.specs.EndTexts.{IsCounterexampleText}
use Rattle.fs_trials.specs.Differences.{ShowsDifference}
use Rattle.hls_shrink.specs.Shrunk.{ShowDifference, EndsIn}
use Rattle.hls_shrink.specs.Given.{given_contents}
use Rattle.fsmd_replies.specs.declared.answer.Answer.{Answer}
use Rattle.fsmd_replies.specs.declared.answer.Answer.TheVariants.{Differs}
use Rattle.fsmd_answers.specs.LineAnswers.{HasLines}
use Rattle.fsmd_answers.specs.Replays.{IsOfReplay}

-- what the left machine's inputs are given in order shows a difference, and the lines tell of it as of a counterexample
pub record IsSmallText (limit : ℕ) (a b : Fsmd) (contents : List Content) (lines : List ℕ) : Type 0 where
  pub shows : ShowDifference a b limit contents
  pub told : IsCounterexampleText (input_names a.variables) contents (output_names a.variables) shows.left shows.right lines

-- the answer to inputs of two machines, of runs of at most so many steps: where they show a difference, the end of the chain of
-- first reductions that show one; and else that of a replay
pub data IsOfShrink (limit : ℕ) (a b : Fsmd) (ins : Inputs) (answer : Answer) : Type 0 where
  Smaller : ShowsDifference a b ins limit → (end : List Content) → EndsIn (ShowDifference a b limit) (given_contents a ins) end
      → HasLines (IsSmallText limit a b end) Differs answer → IsOfShrink limit a b ins answer
  Replayed : ¬ ShowsDifference a b ins limit → IsOfReplay limit a b ins answer → IsOfShrink limit a b ins answer
