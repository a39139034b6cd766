-- What is answered of a run, step by step.
use Rattle.std.proofs.Common.{◌≡◌, ℕ, List}
use Rattle.std.specs.Prelude.{Result, Ok, Err, IfOk}
use Rattle.fs_model.specs.Machines.{Fsmd}
use Rattle.fs_model.specs.Runs.{Inputs}
use Rattle.fsmd_replies.specs.declared.answer.Answer.{Answer}
use Rattle.fsmd_answers.specs.RunAnswers.{IsOfRun}
use Rattle.show_traces.specs.Traces.{IsTrace}
use Rattle.show_tool.specs.Views.{IsOfTrace, answer_behind_lines}

-- the answer to a run, behind the lines of its steps
pub told_behind : {E : Type 0} (limit : ℕ) (m : Fsmd) (ins : Inputs) (lines : List ℕ) (end : Answer) (r : Result Answer E) → IsTrace m ins limit lines
    → IsOfRun limit m ins end → IfOk r (λ told. told ≡ answer_behind_lines lines end) → IfOk r (IsOfTrace limit m ins)
told_behind limit m ins lines end (Ok told) trace run is = record { lines = lines; trace = trace; end = end; run = run; told = is }
told_behind limit m ins lines end (Err e) trace run is = tt
