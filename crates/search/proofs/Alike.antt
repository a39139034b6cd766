-- A search of alike machines closes, or a limit stops it.
use Rattle.std.proofs.Common.{ℕ, List, map}
use Rattle.std.specs.Prelude.{Result, IfOk}
use Rattle.std.proofs.lemmas.Result.{IfOk-weaker}
use Rattle.fs_model.specs.Machines.{Fsmd}
use Rattle.fs_cut.specs.Paths.{Point}
use Rattle.fs_model.specs.declared.sides.Side.{Side}
use Rattle.cert_bisimulation.specs.Alike.{Alike, WhereAlike}
use Rattle.search_tables.specs.declared.moves.Move.{Move}
use Rattle.search_tables.specs.declared.outcome.Outcome.{Outcome}
use Rattle.search_tables.specs.declared.outcome.Outcome.TheVariants as outcomes
use Rattle.search_tables.specs.SearchTables.{MachinePair, machines}
use Rattle.search_tables.specs.Obstacles.{Obstacle, Stuck, Spin, IsObstacle}
use Rattle.search_tables.specs.View.{Points, points_in}
use Rattle.alike_searches.proofs.Obstacles.{never_stuck, never_spins}
use Rattle.search.specs.SearchOutcomes.{StopsAtObstacle, IsSearchOutcome, ClosesOrMeetsLimit}

is_obstacle : (m : MachinePair) (moves : List Move) (points : List Points) (o : Obstacle) → StopsAtObstacle m moves points o → IsObstacle m moves o
is_obstacle m moves points o s = record { table = s.table; makes = s.makes; stands = s.stands }

module _ (m : MachinePair) (K : List (Point × Point)) (alike : Alike m.left m.right K) (moves : List Move) (points : List Points) where
  pub not_stuck : (node output : ℕ) → StopsAtObstacle m moves points (Stuck node output) → ⊥
  not_stuck node output s = never_stuck m s.left_sound s.right_sound K alike moves node output (is_obstacle m moves points (Stuck node output) s)

  pub not_spinning : (d : Side) (cycle : List ℕ) → StopsAtObstacle m moves points (Spin d cycle) → ⊥
  not_spinning d cycle s = never_spins m s.left_sound s.right_sound K alike moves d cycle (is_obstacle m moves points (Spin d cycle) s)

closes_or_meets_limit : (a b : Fsmd) (o : Outcome) → IsSearchOutcome (machines a b) o → WhereAlike a b (ClosesOrMeetsLimit o)
closes_or_meets_limit a b (outcomes.Closed cert) h K alike = tt
closes_or_meets_limit a b (outcomes.Stuck moves points node var) h K alike =
    not_stuck (machines a b) K alike moves.items (map points_in points.items) node var h
closes_or_meets_limit a b (outcomes.Spin moves points side cycle) h K alike =
    not_spinning (machines a b) K alike moves.items (map points_in points.items) side cycle.items h
closes_or_meets_limit a b (outcomes.Wide moves points at) h K alike = tt
closes_or_meets_limit a b (outcomes.Large moves points at) h K alike = tt
closes_or_meets_limit a b (outcomes.Exhausted moves points at what) h K alike = tt

pub answers_where_alike : {E : Type 0} (a b : Fsmd) (r : Result Outcome E) → IfOk r (IsSearchOutcome (machines a b))
    → IfOk r (λ o. WhereAlike a b (ClosesOrMeetsLimit o))
answers_where_alike a b r h = IfOk-weaker r (IsSearchOutcome (machines a b)) (λ o. WhereAlike a b (ClosesOrMeetsLimit o))
    (λ o k. closes_or_meets_limit a b o k) h
