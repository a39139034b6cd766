-- Alike machines are answered by a search that closes, or that a limit stops.
use Rattle.std.proofs.Common.{◌≡◌, ◌⊎◌, inl, inr, ℕ, false, List, map, refl, sym, ◌∙◌}
use Rattle.std.specs.Prelude.{Result, IfOk}
use Rattle.std.proofs.lemmas.Bool.{false≢true}
use Rattle.std.proofs.lemmas.Result.{IfOk-weaker}
use Rattle.fs_model.specs.Machines.{Fsmd}
use Rattle.fs_cut.specs.Paths.{Point}
use Rattle.cert_bisimulation.specs.Tables.{Node}
use Rattle.cert_bisimulation.specs.Alike.{Alike, WhereAlike}
use Rattle.cert_bisimulation.proofs.Twins.{alike_behave_alike}
use Rattle.sym_facts.specs.Facts.{Fact}
use Rattle.cert_model.specs.View.{node_of}
use Rattle.search_tables.specs.declared.moves.Move.{Move}
use Rattle.search_tables.specs.declared.outcome.Outcome.{Outcome}
use Rattle.search_tables.specs.declared.outcome.Outcome.TheVariants as outcomes
use Rattle.search_tables.specs.Obstacles.{Obstacle, Stuck, Spin, Wide, Large, Exhausted}
use Rattle.search_tables.specs.View.{Points, points_in}
use Rattle.search_tables.specs.SearchTables.{machines}
use Rattle.search_laws.specs.SearchOutcomes.{IsClosedWith, StopsAtObstacle, ClosesOrMeetsLimit}
use Rattle.search_laws.proofs.Alike.{not_stuck, not_spinning}
use Rattle.fsmd_pair_answers.specs.declared.answer.PairAnswer.{PairAnswer}
use Rattle.fsmd_pair_answers.specs.declared.answer.PairAnswer.TheVariants.{Equivalent, Counterexample, Undecided}
use Rattle.fsmd_pair_answers.specs.PairAnswers.{IsCounterexample, HasObstacle, is_open_obstacle, IsLeftOpen, HasLimit, ShowsSame}
use Rattle.fsmd_pair_answers.specs.PairAnswers.{StopsWith, IsPairAnswer, IsClosedOrLimit}
use Rattle.fsmd_pair_answers.specs.PairAnswerLaws.{AlikeAreAnswered}
use Rattle.fsmd_pair_answers.proofs.Behaviour.{same_show_nothing}

module _ (a b : Fsmd) (K : List (Point × Point)) (alike : Alike a b K) where
  limit_is : (moves : List Move) (points : List Points) (o : Obstacle) → StopsAtObstacle (machines a b) moves points o → is_open_obstacle o ≡ false
  limit_is moves points (Stuck node output) s = absurd (not_stuck (machines a b) K alike moves points node output s)
  limit_is moves points (Spin d cycle) s = absurd (not_spinning (machines a b) K alike moves points d cycle s)
  limit_is moves points (Wide at) s = refl
  limit_is moves points (Large at) s = refl
  limit_is moves points (Exhausted at what) s = refl

  pub never_left_open : IsLeftOpen (machines a b) → ⊥
  never_left_open h = false≢true (sym (limit_is h.moves h.points h.obstacle h.stops) ∙ h.leaves_open)

  pub closes_where_same : (nodes : List (Node Fact)) → ShowsSame (machines a b) nodes → IsClosedWith (machines a b) nodes
  closes_where_same nodes h = by_found h.found
    where
      by_found : IsClosedWith (machines a b) nodes ⊎ IsLeftOpen (machines a b) → IsClosedWith (machines a b) nodes
      by_found (inl x) = x
      by_found (inr x) = absurd (never_left_open x)

  pub has_limit : (lines : List ℕ) → HasObstacle (machines a b) lines → HasLimit (machines a b) lines
  has_limit lines h = record { obstacle = h; is_limit = limit_is h.moves h.points h.obstacle h.stops }

  meets_limit : (o : Outcome) → StopsWith (machines a b) o → ClosesOrMeetsLimit o
  meets_limit (outcomes.Closed cert) h = tt
  meets_limit (outcomes.Stuck moves points node output) h =
      not_stuck (machines a b) K alike moves.items (map points_in points.items) node output h
  meets_limit (outcomes.Spin moves points d cycle) h =
      not_spinning (machines a b) K alike moves.items (map points_in points.items) d cycle.items h
  meets_limit (outcomes.Wide moves points at) h = tt
  meets_limit (outcomes.Large moves points at) h = tt
  meets_limit (outcomes.Exhausted moves points at what) h = tt

  pub no_counterexample : (limit : ℕ) (lines : List ℕ) → IsCounterexample limit a b lines → ⊥
  no_counterexample limit lines h = same_show_nothing limit a b h.number (alike_behave_alike a b h.left_sound h.right_sound K alike) h.shows

pub alike_are_answered : AlikeAreAnswered
alike_are_answered limit a b (Equivalent cert) h K alike = closes_where_same a b K alike (map node_of cert.nodes.items) h
alike_are_answered limit a b (Counterexample lines) h K alike = no_counterexample a b K alike limit lines.items h
alike_are_answered limit a b (Undecided outcome) h K alike = (h.stops, meets_limit a b K alike outcome h.stops)

pub answered_where_alike : {E : Type 0} (limit : ℕ) (a b : Fsmd) (r : Result PairAnswer E) → IfOk r (IsPairAnswer limit a b)
    → IfOk r (λ x. WhereAlike a b (IsClosedOrLimit (machines a b) x))
answered_where_alike limit a b r h =
    IfOk-weaker r (IsPairAnswer limit a b) (λ x. WhereAlike a b (IsClosedOrLimit (machines a b) x)) (λ x k. alike_are_answered limit a b x k) h
