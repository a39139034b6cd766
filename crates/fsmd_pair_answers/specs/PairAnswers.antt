-- Which answer two machines get.
use Rattle.std.specs.Prelude.{◌≡◌, ◌⊎◌, ◌<◌, ℕ, Bool, true, false, IsTrue, List, map}
use Rattle.fs_model.specs.SoundMachines.{IsSound}
use Rattle.fs_model.specs.Machines.{Fsmd}
use Rattle.fs_runs.specs.Outcomes.{output_names}
use Rattle.fs_run_text.specs.ItemTexts.{input_names}
use Rattle.fs_run_text.specs.EndTexts.{IsCounterexampleText}
use Rattle.fs_trials.specs.Candidates.{stated_count, stated_contents}
use Rattle.fs_trials.specs.Differences.{DiffersAt}
use Rattle.cert_bisimulation.specs.Tables.{Node}
use Rattle.sym_facts.specs.Facts.{Fact}
use Rattle.cert_model.specs.View.{node_of}
use Rattle.search_tables.specs.declared.moves.Move.{Move}
use Rattle.search_tables.specs.declared.outcome.Outcome.{Outcome}
use Rattle.search_tables.specs.declared.outcome.Outcome.TheVariants as outcomes
use Rattle.search_tables.specs.SearchTables.{MachinePair, machines}
use Rattle.search_tables.specs.Obstacles.{Obstacle, Stuck, Spin, Wide, Large, Exhausted}
use Rattle.search_tables.specs.View.{Points, points_in}
use Rattle.search_laws.specs.SearchOutcomes.{IsClosedWith, StopsAtObstacle, ClosesOrMeetsLimit}
use Rattle.search_laws.specs.Certificates.{IsCertificate}
use Rattle.fsmd_replies.specs.ObstacleTexts.{obstacle_text}
use Rattle.fsmd_pair_answers.specs.declared.answer.PairAnswer.{PairAnswer}
use Rattle.fsmd_pair_answers.specs.declared.answer.PairAnswer.TheVariants.{Equivalent, Counterexample, Undecided}

-- the lines tell of the first stated candidate that shows a difference of two sound machines within so many steps: its inputs,
-- and both runs' outputs
pub record IsCounterexample (limit : ℕ) (a b : Fsmd) (lines : List ℕ) : Type 0 where
  pub left_sound : IsSound a
  pub right_sound : IsSound b
  pub number : ℕ
  pub among : number < stated_count a b
  pub shows : DiffersAt a b limit number
  pub first : (i : ℕ) → i < number → ¬ DiffersAt a b limit i
  pub told : IsCounterexampleText (input_names a.variables) (stated_contents a b number)
      (output_names a.variables) shows.left shows.right lines

-- no stated candidate shows a difference within so many steps
pub record NoneDiffers (limit : ℕ) (a b : Fsmd) : Type 0 where
  pub none : (j : ℕ) → j < stated_count a b → ¬ DiffersAt a b limit j

-- a legal list of moves stops at an obstacle, which the lines name
pub record HasObstacle (m : MachinePair) (lines : List ℕ) : Type 0 where
  pub moves : List Move
  pub points : List Points
  pub obstacle : Obstacle
  pub stops : StopsAtObstacle m moves points obstacle
  pub told : lines ≡ obstacle_text m moves points obstacle

-- an obstacle that leaves open whether the machines have the same behaviour: outputs that differ, or a machine alone in a cycle.
-- Else it is a limit
abbrev pub is_open_obstacle : Obstacle → Bool
is_open_obstacle (Stuck node output) = true
is_open_obstacle (Spin side cycle) = true
is_open_obstacle (Wide at) = false
is_open_obstacle (Large at) = false
is_open_obstacle (Exhausted at what) = false

-- a legal list of moves stops at an open obstacle
pub record IsLeftOpen (m : MachinePair) : Type 0 where
  pub moves : List Move
  pub points : List Points
  pub obstacle : Obstacle
  pub stops : StopsAtObstacle m moves points obstacle
  pub leaves_open : IsTrue (is_open_obstacle obstacle)

-- a legal list of moves stops at a limit, which the lines name
pub record HasLimit (m : MachinePair) (lines : List ℕ) : Type 0 where
  pub obstacle : HasObstacle m lines
  pub is_limit : is_open_obstacle obstacle.obstacle ≡ false

-- the nodes are found beyond the search, which is left open, and are judged: they are a certificate that holds
pub record IsFoundBeyond (m : MachinePair) (nodes : List (Node Fact)) : Type 0 where
  pub left_open : IsLeftOpen m
  pub certificate : IsCertificate m nodes

-- which certificate shows that two machines have the same behaviour: one that holds. It is that of the search, which closes with
-- it; or the search is left open
pub record ShowsSame (m : MachinePair) (nodes : List (Node Fact)) : Type 0 where
  pub certificate : IsCertificate m nodes
  pub found : IsClosedWith m nodes ⊎ IsLeftOpen m

-- the search of two machines stops with this outcome, at an obstacle
abbrev pub StopsWith : MachinePair → Outcome → Type 0
StopsWith m (outcomes.Closed cert) = ⊥
StopsWith m (outcomes.Stuck moves points node output) =
    StopsAtObstacle m moves.items (map points_in points.items) (Stuck node output)
StopsWith m (outcomes.Spin moves points side cycle) =
    StopsAtObstacle m moves.items (map points_in points.items) (Spin side cycle.items)
StopsWith m (outcomes.Wide moves points at) = StopsAtObstacle m moves.items (map points_in points.items) (Wide at)
StopsWith m (outcomes.Large moves points at) = StopsAtObstacle m moves.items (map points_in points.items) (Large at)
StopsWith m (outcomes.Exhausted moves points at what) =
    StopsAtObstacle m moves.items (map points_in points.items) (Exhausted at what)

-- no stated candidate shows a difference, and the lines name what keeps the machines from being shown the same
pub record IsUndecided (limit : ℕ) (a b : Fsmd) (lines : List ℕ) : Type 0 where
  pub none_differ : NoneDiffers limit a b
  pub obstacle : HasObstacle (machines a b) lines

-- no stated candidate shows a difference, and the search of the machines stops with this outcome
pub record IsUndecidedWith (limit : ℕ) (a b : Fsmd) (outcome : Outcome) : Type 0 where
  pub none_differ : NoneDiffers limit a b
  pub stops : StopsWith (machines a b) outcome

-- the answer to two machines with the same inputs and outputs, of runs of at most so many steps
abbrev pub IsPairAnswer : (limit : ℕ) → Fsmd → Fsmd → PairAnswer → Type 0
IsPairAnswer limit a b (Equivalent cert) = ShowsSame (machines a b) (map node_of cert.nodes.items)
IsPairAnswer limit a b (Counterexample lines) = IsCounterexample limit a b lines.items
IsPairAnswer limit a b (Undecided outcome) = IsUndecidedWith limit a b outcome

-- P holds where the answer is a certificate
abbrev pub IfEquivalent : Type 0 → PairAnswer → Type 0
IfEquivalent P (Equivalent cert) = P
IfEquivalent P (Counterexample lines) = Unit {0}
IfEquivalent P (Undecided outcome) = Unit {0}

-- the answer is that of a search that closes, or that a limit stops: the certificate, or the outcome
abbrev pub IsClosedOrLimit : MachinePair → PairAnswer → Type 0
IsClosedOrLimit m (Equivalent cert) = IsClosedWith m (map node_of cert.nodes.items)
IsClosedOrLimit m (Counterexample lines) = ⊥
IsClosedOrLimit m (Undecided outcome) = StopsWith m outcome × ClosesOrMeetsLimit outcome
