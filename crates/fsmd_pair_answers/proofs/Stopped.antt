-- Searches that stop at an obstacle.
use Rattle.std.proofs.Common.{◌≡◌, ℕ, List, map}
use Rattle.fs_model.specs.Machines.{Fsmd}
use Rattle.search_tables.specs.declared.outcome.Outcome.{Outcome}
use Rattle.search_tables.specs.declared.outcome.Outcome.TheVariants.{Closed, Stuck, Spin, Wide, Large, Exhausted}
use Rattle.search_tables.specs.Obstacles as obstacle
use Rattle.search_tables.specs.SearchTables.{MachinePair, machines}
use Rattle.search_tables.specs.View.{points_in}
use Rattle.fsmd_replies.specs.ObstacleTexts.{outcome_text}
use Rattle.fsmd_pair_answers.specs.PairAnswers.{HasObstacle, StopsWith, IsUndecidedWith, IsUndecided}

-- lines of the outcome name its obstacle
pub has_obstacle : (m : MachinePair) (o : Outcome) (lines : List ℕ) → StopsWith m o → lines ≡ outcome_text m o → HasObstacle m lines
has_obstacle m (Closed cert) lines h e = absurd h
has_obstacle m (Stuck moves points node output) lines h e =
    record { moves = moves.items; points = map points_in points.items; obstacle = obstacle.Stuck node output; stops = h; told = e }
has_obstacle m (Spin moves points side cycle) lines h e =
    record { moves = moves.items; points = map points_in points.items; obstacle = obstacle.Spin side cycle.items; stops = h; told = e }
has_obstacle m (Wide moves points at) lines h e =
    record { moves = moves.items; points = map points_in points.items; obstacle = obstacle.Wide at; stops = h; told = e }
has_obstacle m (Large moves points at) lines h e =
    record { moves = moves.items; points = map points_in points.items; obstacle = obstacle.Large at; stops = h; told = e }
has_obstacle m (Exhausted moves points at what) lines h e =
    record { moves = moves.items; points = map points_in points.items; obstacle = obstacle.Exhausted at what; stops = h; told = e }

pub undecided : (limit : ℕ) (a b : Fsmd) (o : Outcome) (lines : List ℕ) → IsUndecidedWith limit a b o → lines ≡ outcome_text (machines a b) o
    → IsUndecided limit a b lines
undecided limit a b o lines h e = record { none_differ = h.none_differ; obstacle = has_obstacle (machines a b) o lines h.stops e }
