-- Which answer follows for a command on two machines.
use Rattle.std.specs.Prelude.{ℕ, ◌≤◌, ⊤}
use Rattle.fs_model.specs.Machines.{Fsmd}
use Rattle.fsmd_replies.specs.declared.answer.Answer.{Answer}
use Rattle.fsmd_answers.specs.Readings.{Reading}
use Rattle.fsmd_answers.specs.ComparisonAnswers.{IsOfPair}
use Rattle.fsmd_answers.specs.Verdicts.{IsJudged}
use Rattle.fsmd_answers.specs.Replays.{IsOfReplay}
use Rattle.fsmd_answers.specs.Shrinks.{IsOfShrink}
use Rattle.fsmd_answers.specs.Follows.{Ends, OpensInputs, OpensCertificate}
use Rattle.fsmd_tool.specs.declared.answer.pairs.PairCommand.{PairCommand}
use Rattle.fsmd_tool.specs.declared.answer.pairs.PairCommand.TheVariants.{Check, Verify, Replay, Shrink}

-- which answer follows from what was read of the files from a number on, behind those of the machines
abbrev pub FollowsFor : PairCommand → (a b : Fsmd) → (file : ℕ) → Reading → Answer → Type 0
FollowsFor (Check steps keeps) a b = Ends (IsOfPair steps keeps a b)
FollowsFor Verify a b = OpensCertificate a b (λ nodes. Ends (IsJudged a b nodes))
FollowsFor (Replay steps) a b = OpensInputs a (λ ins. Ends (IsOfReplay steps a b ins))
FollowsFor (Shrink steps) a b = OpensInputs a (λ ins. Ends (IsOfShrink steps a b ins))

-- at most so many files are opened behind those of the machines
abbrev pub files_behind : PairCommand → ℕ
files_behind (Check steps keeps) = 0
files_behind Verify = 1
files_behind (Replay steps) = 1
files_behind (Shrink steps) = 1

-- where the machines run, they may take a step
abbrev pub MayStep : PairCommand → Type 0
MayStep (Check steps keeps) = 1 ≤ steps
MayStep Verify = ⊤
MayStep (Replay steps) = 1 ≤ steps
MayStep (Shrink steps) = 1 ≤ steps
