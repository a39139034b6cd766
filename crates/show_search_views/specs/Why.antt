-- What leads to the answer that two machines get.
use Rattle.std.specs.Prelude.{◌≡◌, ℕ, Bool, true, false, List, [], ◌++◌, length, map, Option, Some, None, is_some, codes}
use Rattle.fs_model.specs.Machines.{Fsmd}
use Rattle.cert_model.specs.Lawful.{points_differ}
use Rattle.cert_model.specs.View.{node_of}
use Rattle.search_tables.specs.declared.moves.Move.{Move}
use Rattle.search_tables.specs.declared.outcome.Outcome.{Outcome}
use Rattle.search_tables.specs.declared.outcome.Outcome.TheVariants.{Closed, Stuck, Spin, Wide, Large, Exhausted}
use Rattle.search_tables.specs.SearchTables.{MachinePair, machines}
use Rattle.fsmd_pair_answers.specs.SearchOutcomes.{IsSearchOutcome}
use Rattle.fsmd_pair_answers.specs.declared.answer.PairAnswer.{PairAnswer}
use Rattle.fsmd_pair_answers.specs.declared.answer.PairAnswer.TheVariants.{Equivalent, Counterexample, Undecided}
use Rattle.fsmd_pair_answers.specs.PairAnswers.{IsPairAnswer}
use Rattle.fsmd_replies.specs.declared.answer.Answer.{Answer}
use Rattle.fsmd_replies.specs.declared.answer.Answer.TheVariants as answers
use Rattle.fsmd_replies.specs.ObstacleTexts.{outcome_text}
use Rattle.fsmd_replies.specs.Replies.{equivalent_text}
use Rattle.show_move_lines.specs.MoveLines.{history_text}
use Rattle.show_certificate_lines.specs.CertificateLines.{certificate_lines}
use Rattle.show_search_views.specs.declared.why.Explanation.{Explanation}

-- the moves of a search that stops at an obstacle
abbrev pub moves_of : Outcome → Option (List Move)
moves_of (Closed cert) = None
moves_of (Stuck moves points node output) = Some moves.items
moves_of (Spin moves points side cycle) = Some moves.items
moves_of (Wide moves points at) = Some moves.items
moves_of (Large moves points at) = Some moves.items
moves_of (Exhausted moves points at what) = Some moves.items

-- the history of a search that stops at an obstacle; one that closes has its certificate
abbrev pub history_of : MachinePair → Option (List Move) → List ℕ
history_of m None = []
history_of m (Some moves) = history_text m moves

-- what stands before a certificate: whether it was found beyond the search; where nodes share their points, by a third one
abbrev pub heading_of : (found_beyond apart : Bool) → List ℕ
heading_of true true = codes "a second search finds a certificate:\n"
heading_of true false = codes "a third search finds a certificate:\n"
heading_of false apart = codes "the search finds a certificate:\n"

-- the certificate of an answer, if it has one
abbrev pub found_lines : (found_beyond : Bool) → MachinePair → PairAnswer → List ℕ
found_lines beyond m (Equivalent cert) =
    certificate_lines (heading_of beyond (points_differ (map node_of cert.nodes.items))) m (map node_of cert.nodes.items)
found_lines beyond m (Counterexample lines) = []
found_lines beyond m (Undecided outcome) = []

-- what leads to an answer, by the outcome of the search: its history, and the certificate
abbrev pub why_lines : MachinePair → Outcome → PairAnswer → List ℕ
why_lines m o x = history_of m (moves_of o) ++ found_lines (is_some (moves_of o)) m x

-- the answer is one that two machines get, of runs of at most so many steps, and the lines are those of the search's outcome
-- and of the answer
pub record IsExplanation (limit : ℕ) (a b : Fsmd) (e : Explanation) : Type 0 where
  pub outcome : Outcome
  pub searched : IsSearchOutcome (machines a b) outcome
  pub answers : IsPairAnswer limit a b e.answer
  pub told : e.lines.items ≡ why_lines (machines a b) outcome e.answer

-- the answer of two machines behind the lines of what led to it
abbrev pub answer_behind : MachinePair → (lines : List ℕ) → PairAnswer → Answer
answer_behind m lines (Equivalent cert) = answers.Text (lines ++ equivalent_text (length cert.nodes.items))
answer_behind m lines (Counterexample more) = answers.Differs (lines ++ more.items)
answer_behind m lines (Undecided outcome) = answers.Undecided (lines ++ outcome_text m outcome)
