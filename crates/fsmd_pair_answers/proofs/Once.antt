-- Two machines have one answer.
use Rattle.std.proofs.Common.{◌≡◌, ◌⊎◌, inl, inr, ℕ, List, None, Some, Option, map, refl, sym, ◌∙◌, ap, ap₂, subst}
use Rattle.std.proofs.lemmas.Bool.{false≢true}
use Rattle.fs_model.specs.SoundMachines.{IsSound}
use Rattle.fs_model.specs.Machines.{Fsmd}
use Rattle.fs_pair.specs.Interfaces.{interface_fault}
use Rattle.fs_model.specs.declared.sides.Side.{Side}
use Rattle.cert_bisimulation.specs.Tables.{Node as CertificateNode}
use Rattle.sym_facts.specs.Facts.{Fact}
use Rattle.cert_model.specs.View.{node_of}
use Rattle.cert_model.proofs.AllHold.{same_where_yes}
use Rattle.search_tables.specs.declared.moves.Move.{Move}
use Rattle.search_tables.specs.declared.outcome.Outcome.{Outcome}
use Rattle.search_tables.specs.SearchTables.{MachinePair, Table, first_table, WideEvent, LargeEvent, machines}
use Rattle.search_tables.specs.Next.{Next, Nothing, Change, Stop, Excess, next_move, IsClosed}
use Rattle.search_tables.specs.Legal.{Difference, difference_in}
use Rattle.search_tables.specs.Graphs.{AreRanks}
use Rattle.search_tables.specs.LoneMoves.{lone_moves}
use Rattle.search_tables.specs.Certifying.{Certifies}
use Rattle.search_tables.specs.Obstacles.{Obstacle, Stuck, Spin, Wide, Large, Exhausted, StandsIn}
use Rattle.search_tables.specs.View.{Points, points_at}
use Rattle.search_tables.proofs.Ending.{Ends, stands_ends, same_moves, no_certificate}
use Rattle.search_tables.proofs.OneSpin.{one_spin}
use Rattle.search_laws.specs.SearchOutcomes.{IsClosedWith, StopsAtObstacle}
use Rattle.fsmd_pair_answers.specs.declared.answer.PairAnswer.TheVariants.{Equivalent, Counterexample, Undecided}
use Rattle.fsmd_replies.specs.ObstacleTexts.{obstacle_text, outcome_text, undecided_at, cycle_text, node_points_text, text_of_lookup}
use Rattle.fsmd_pair_answers.specs.PairAnswers.{IsCounterexample, NoneDiffers, HasObstacle, is_open_obstacle, IsLeftOpen, IsFoundBeyond}
use Rattle.fsmd_pair_answers.specs.PairAnswers.{ShowsSame, StopsWith, IsUndecided}
use Rattle.fsmd_pair_answers.specs.PairAnswerLaws.{OnePairAnswer, ClosedIsNotOpen, LimitIsNotOpen}
use Rattle.fsmd_pair_answers.proofs.Ranks.{one_certificate}
use Rattle.fsmd_pair_answers.proofs.Stopped.{has_obstacle}
use Rattle.fsmd_pair_answers.proofs.Behaviour.{same_show_nothing, one_counterexample}

-- ---- tables in which a search ends

closed_ends : (m : MachinePair) (T : Table) → IsClosed m T → Ends m T
closed_ends m T h x V s e = cc (h, e)

-- ---- certificates

abbrev pub Nodes : Type 0
Nodes = List (CertificateNode Fact)

pub same_certificate : (m : MachinePair) (cs ds : Nodes) → IsClosedWith m cs → IsClosedWith m ds → cs ≡ ds
same_certificate m cs ds x y =
    let same =
    (same_moves m x.moves y.moves (first_table m) x.table y.table (closed_ends m x.table x.closed) (closed_ends m y.table y.closed) x.makes.lead y.makes.lead).1
    in
    one_certificate m x.table x.ranks y.ranks cs ds x.are_ranks (subst (λ T. AreRanks (lone_moves m T) y.ranks) (sym same) y.are_ranks) x.certifies
    (subst (λ T. Certifies m T y.ranks ds) (sym same) y.certifies)

not_stopped : (m : MachinePair) (cs : Nodes) (moves : List Move) (points : List Points) (o : Obstacle) → IsClosedWith m cs
    → StopsAtObstacle m moves points o → ⊥
not_stopped m cs moves points o x y =
    let same =
    (same_moves m x.moves moves (first_table m) x.table y.table (closed_ends m x.table x.closed) (stands_ends m y.table o y.stands) x.makes.lead y.makes.lead).1
    in
    no_certificate m x.table o x.ranks (subst (λ T. StandsIn m T o) (sym same) y.stands) x.closed x.none_differ x.are_ranks

closed_pair_is_not_open : (m : MachinePair) (cs : Nodes) → IsClosedWith m cs → IsLeftOpen m → ⊥
closed_pair_is_not_open m cs x y = not_stopped m cs y.moves y.points y.obstacle x y.stops

-- certificates of two machines are one, or both are found beyond the search
pub one_or_beyond : (m : MachinePair) (cs ds : Nodes) → ShowsSame m cs → ShowsSame m ds → (cs ≡ ds) ⊎ (IsFoundBeyond m cs × IsFoundBeyond m ds)
one_or_beyond m cs ds p q = by_found p.found q.found
  where
    by_found : IsClosedWith m cs ⊎ IsLeftOpen m → IsClosedWith m ds ⊎ IsLeftOpen m → (cs ≡ ds) ⊎ (IsFoundBeyond m cs × IsFoundBeyond m ds)
    by_found (inl x) (inl y) = inl (same_certificate m cs ds x y)
    by_found (inl x) (inr y) = absurd (closed_pair_is_not_open m cs x y)
    by_found (inr x) (inl y) = absurd (closed_pair_is_not_open m ds y x)
    by_found (inr x) (inr y) = inr (record { left_open = x; certificate = p.certificate }, record { left_open = y; certificate = q.certificate })

-- where a search has an obstacle, a certificate is found beyond it
pub only_beyond : (m : MachinePair) (cs : Nodes) (line : List ℕ) → ShowsSame m cs → HasObstacle m line → IsFoundBeyond m cs
only_beyond m cs line p y = by_found p.found
  where
    by_found : IsClosedWith m cs ⊎ IsLeftOpen m → IsFoundBeyond m cs
    by_found (inl x) = absurd (not_stopped m cs y.moves y.points y.obstacle x y.stops)
    by_found (inr x) = record { left_open = x; certificate = p.certificate }

-- ---- obstacles

-- the obstacle of a table that is no cycle
abbrev plain_obstacle : Option Difference → Next → Option Obstacle
plain_obstacle (Some d) n = Some (Stuck d.node d.output)
plain_obstacle None Nothing = None
plain_obstacle None (Change x V) = None
plain_obstacle None (Stop x (WideEvent l r)) = Some (Wide x)
plain_obstacle None (Stop x (LargeEvent u d)) = Some (Large x)
plain_obstacle None (Excess x b) = Some (Exhausted x b)

record IsCycle (o : Obstacle) : Type 0 where
  pub side : Side
  pub cycle : List ℕ
  pub is : o ≡ Spin side cycle

abbrev Stands : Option Obstacle → Obstacle → Type 0
Stands p o = (p ≡ Some o) ⊎ ((p ≡ None) × IsCycle o)

stands : (m : MachinePair) (T : Table) (o : Obstacle) → StandsIn m T o → Stands (plain_obstacle (difference_in m T) (next_move m T)) o
stands m T (Stuck k x) h = inl (ap (λ s. plain_obstacle s (next_move m T)) h)
stands m T (Spin d xs) h = inr (ap₂ plain_obstacle h.0 h.1, record { side = d; cycle = xs; is = refl })
stands m T (Wide at) h = inl (ap₂ plain_obstacle h.0 h.3)
stands m T (Large at) h = inl (ap₂ plain_obstacle h.0 h.3)
stands m T (Exhausted at what) h = inl (ap₂ plain_obstacle h.0 h.1)

abbrev AreOne : Obstacle → Obstacle → Type 0
AreOne o p = (o ≡ p) ⊎ (IsCycle o × IsCycle p)

are_one : (x : Option Obstacle) (o p : Obstacle) → Stands x o → Stands x p → AreOne o p
are_one x o p (inl e) (inl f) = inl (cc (e, f))
are_one x o p (inl e) (inr g) = absurd (cc (e, g.0))
are_one x o p (inr g) (inl f) = absurd (cc (g.0, f))
are_one x o p (inr g) (inr h) = inr (g.1, h.1)

-- cycles of one table have one line
cycle_line : (m : MachinePair) (T : Table) (moves : List Move) (points : List Points) (o p : Obstacle) → IsCycle o → IsCycle p → StandsIn m T o → StandsIn m T p
    → obstacle_text m moves points o ≡ obstacle_text m moves points p
cycle_line m T moves points o p c d s t =
    let left : StandsIn m T (Spin c.side c.cycle) = subst (StandsIn m T) c.is s in
    let right : StandsIn m T (Spin d.side d.cycle) = subst (StandsIn m T) d.is t in
    let one = one_spin m T c.side d.side c.cycle d.cycle left.2 right.2 in
    let text = λ (z : Side) (x : Option ℕ). undecided_at (cycle_text z) (text_of_lookup (node_points_text m points) x) in
    ap (obstacle_text m moves points) c.is ∙ ap₂ text one.side one.first ∙ sym (ap (obstacle_text m moves points) d.is)

pub one_line : (m : MachinePair) (l k : List ℕ) → HasObstacle m l → HasObstacle m k → l ≡ k
one_line m l k x y =
    let same = same_moves m x.moves y.moves (first_table m) x.stops.table y.stops.table (stands_ends m x.stops.table x.obstacle x.stops.stands)
    (stands_ends m y.stops.table y.obstacle y.stops.stands) x.stops.makes.lead y.stops.makes.lead in
    let points : x.points ≡ y.points = sym x.stops.points_are ∙ ap (map points_at) same.1 ∙ y.stops.points_are in
    let there : StandsIn m x.stops.table y.obstacle = subst (λ T. StandsIn m T y.obstacle) (sym same.1) y.stops.stands in
    elim (are_one (plain_obstacle (difference_in m x.stops.table) (next_move m x.stops.table)) x.obstacle y.obstacle
    (stands m x.stops.table x.obstacle x.stops.stands) (stands m x.stops.table y.obstacle there)) as (λ _. l ≡ k) [
      | inl e ↦ x.told ∙ ap (λ ms. obstacle_text m ms x.points x.obstacle) same.0 ∙ ap (λ ps. obstacle_text m y.moves ps x.obstacle) points
          ∙ ap (obstacle_text m y.moves y.points) e ∙ sym y.told
      | inr c ↦ x.told ∙ ap (λ ms. obstacle_text m ms x.points x.obstacle) same.0 ∙ ap (λ ps. obstacle_text m y.moves ps x.obstacle) points
          ∙ cycle_line m x.stops.table y.moves y.points x.obstacle y.obstacle c.0 c.1 x.stops.stands there ∙ sym y.told
    ]

-- two obstacles of one search are one, or both are cycles
one_obstacle : (m : MachinePair) (ms ns : List Move) (ps qs : List Points) (o p : Obstacle) → StopsAtObstacle m ms ps o → StopsAtObstacle m ns qs p → AreOne o p
one_obstacle m ms ns ps qs o p x y =
    let same =
    (same_moves m ms ns (first_table m) x.table y.table (stands_ends m x.table o x.stands) (stands_ends m y.table p y.stands) x.makes.lead y.makes.lead).1 in
    let there : StandsIn m x.table p = subst (λ T. StandsIn m T p) (sym same) y.stands in
    are_one (plain_obstacle (difference_in m x.table) (next_move m x.table)) o p (stands m x.table o x.stands) (stands m x.table p there)

both_open : (o p : Obstacle) → AreOne o p → is_open_obstacle o ≡ is_open_obstacle p
both_open o p (inl e) = ap is_open_obstacle e
both_open o p (inr c) = ap is_open_obstacle c.0.is ∙ sym (ap is_open_obstacle c.1.is)

pub closed_not_open : ClosedIsNotOpen
closed_not_open m cs x y = closed_pair_is_not_open m cs x y

pub limit_not_open : LimitIsNotOpen
limit_not_open m moves points o x limit y =
    false≢true (sym limit ∙ both_open o y.obstacle (one_obstacle m moves y.moves points y.points o y.obstacle x y.stops) ∙ y.leaves_open)

-- ---- answers

not_apart : (limit : ℕ) (a b : Fsmd) → IsSound a → IsSound b → interface_fault a b ≡ None → (cs : Nodes) (l : List ℕ) → ShowsSame (machines a b) cs
    → IsCounterexample limit a b l → ⊥
not_apart limit a b s t none cs l x y = same_show_nothing limit a b y.number (same_where_yes a b s t none cs x.certificate.lawful x.certificate.hold) y.shows

some_differs : (limit : ℕ) (a b : Fsmd) (l : List ℕ) → IsCounterexample limit a b l → NoneDiffers limit a b → ⊥
some_differs limit a b l x y = y.none x.number x.among x.shows

pub not_open : (limit : ℕ) (a b : Fsmd) (l k : List ℕ) → IsCounterexample limit a b l → IsUndecided limit a b k → ⊥
not_open limit a b l k x y = some_differs limit a b l x y.none_differ

line_of : (m : MachinePair) (o : Outcome) → StopsWith m o → HasObstacle m (outcome_text m o)
line_of m o h = has_obstacle m o (outcome_text m o) h refl

pub one_answer : OnePairAnswer
one_answer limit a b s t none (Equivalent c) (Equivalent d) p q = one_or_beyond (machines a b) (map node_of c.nodes.items) (map node_of d.nodes.items) p q
one_answer limit a b s t none (Equivalent c) (Counterexample k) p q = not_apart limit a b s t none (map node_of c.nodes.items) k.items p q
one_answer limit a b s t none (Equivalent c) (Undecided o) p q =
    only_beyond (machines a b) (map node_of c.nodes.items) (outcome_text (machines a b) o) p (line_of (machines a b) o q.stops)
one_answer limit a b s t none (Counterexample l) (Equivalent d) p q = not_apart limit a b s t none (map node_of d.nodes.items) l.items q p
one_answer limit a b s t none (Counterexample l) (Counterexample k) p q = one_counterexample limit a b l.items k.items p q
one_answer limit a b s t none (Counterexample l) (Undecided o) p q = some_differs limit a b l.items p q.none_differ
one_answer limit a b s t none (Undecided o) (Equivalent d) p q =
    only_beyond (machines a b) (map node_of d.nodes.items) (outcome_text (machines a b) o) q (line_of (machines a b) o p.stops)
one_answer limit a b s t none (Undecided o) (Counterexample k) p q = some_differs limit a b k.items q p.none_differ
one_answer limit a b s t none (Undecided o) (Undecided v) p q = one_line (machines a b) (outcome_text (machines a b) o) (outcome_text (machines a b) v)
    (line_of (machines a b) o p.stops) (line_of (machines a b) v q.stops)
