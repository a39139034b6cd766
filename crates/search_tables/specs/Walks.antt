-- A walk in depth, and what is known of it.
use Rattle.std.specs.Prelude.{◌≡◌, ℕ, suc, ◌+◌, ◌-◌, ◌<◌, ◌≤◌, List, [], ◌∷◌, length, map, take, drop, Vec, Option, Some, None}
use Rattle.std.specs.Prelude.{slice_get, slice_index, sum_by, ◌⊎◌}
use Rattle.std.specs.Global.{Global}
use Rattle.std.specs.List.{AllByRecursion, slice_index_or}
use Rattle.search_tables.specs.Graphs.{HasEdge, IsCycle, BeginsLeast, above, AreRanks}
use Rattle.search_tables.specs.declared.marks.Mark.{Mark}
use Rattle.search_tables.specs.declared.marks.Mark.TheVariants.{New, Open, Ranked}
use Rattle.search_tables.specs.declared.marks.Frame.{Frame}
use Rattle.search_tables.specs.declared.ranking.Ranking.{Ranking}
use Rattle.search_tables.specs.declared.ranking.Ranking.TheVariants.{Ranks, Cycle}

abbrev pub rank_of : Mark → ℕ
rank_of (Ranked r) = r
rank_of New = 0
rank_of (Open d) = 0

abbrev pub ranks_in : List Mark → List ℕ
ranks_in M = map rank_of M

-- how many nodes have their rank
abbrev pub one_if_ranked : Mark → ℕ
one_if_ranked (Ranked r) = 1
one_if_ranked New = 0
one_if_ranked (Open d) = 0

abbrev pub ranked_count : List Mark → ℕ
ranked_count M = sum_by one_if_ranked M

pub record IsRanked (M : List Mark) (j : ℕ) : Type 0 where
  pub rank : ℕ
  pub mark : slice_get M j ≡ Some (Ranked rank)

-- each rank is one more than the greatest of its targets', and less than their number
pub record AreRight (E : List (List ℕ)) (M : List Mark) : Type 0 where
  pub count : length M ≡ length E
  pub targets : (i r : ℕ) (js : List ℕ) → slice_get M i ≡ Some (Ranked r) → slice_get E i ≡ Some js
      → AllByRecursion (IsRanked M) js
  pub rank : (i r : ℕ) (js : List ℕ) → slice_get M i ≡ Some (Ranked r) → slice_get E i ≡ Some js → r ≡ above (ranks_in M) js
  pub low : (i r : ℕ) → slice_get M i ≡ Some (Ranked r) → r < ranked_count M

-- a node whose first targets were looked at
pub record Looks (E : List (List ℕ)) (M : List Mark) (f : Frame) : Type 0 where
  pub targets : List ℕ
  pub from : slice_get E f.node ≡ Some targets
  pub within : f.next ≤ length targets
  pub done : AllByRecursion (IsRanked M) (take f.next targets)
  pub best : f.best ≡ above (ranks_in M) (take f.next targets)
  pub low : f.best ≤ ranked_count M

-- the stack is a path of open nodes, and has them all
pub record IsStack (E : List (List ℕ)) (M : List Mark) (S : List Frame) : Type 0 where
  pub looks : (d : ℕ) (f : Frame) → slice_get S d ≡ Some f → Looks E M f
  pub marked : (d : ℕ) (f : Frame) → slice_get S d ≡ Some f → slice_get M f.node ≡ Some (Open d)
  pub node_at : (i d : ℕ) → slice_get M i ≡ Some (Open d) → (f : Frame) × (slice_get S d ≡ Some f) × (f.node ≡ i)
  pub steps : (d : ℕ) (f g : Frame) → slice_get S d ≡ Some f → slice_get S (suc d) ≡ Some g → HasEdge E f.node g.node

-- ranks stay
pub record Extends (M M' : List Mark) : Type 0 where
  pub kept : (j r : ℕ) → slice_get M j ≡ Some (Ranked r) → slice_get M' j ≡ Some (Ranked r)

-- what there is to do
abbrev pub new_work : List (List ℕ) → List Mark → ℕ
new_work [] M = 0
new_work (js ∷ E) [] = 0
new_work (js ∷ E) (New ∷ M) = (length js + 2) + new_work E M
new_work (js ∷ E) (Open d ∷ M) = new_work E M
new_work (js ∷ E) (Ranked r ∷ M) = new_work E M

abbrev pub frame_work : List (List ℕ) → Frame → ℕ
frame_work E f = (length (slice_index_or E f.node []) - f.next) + 1

abbrev pub walk_work : List (List ℕ) → List Mark → List Frame → ℕ
walk_work E M S = new_work E M + sum_by (frame_work E) S

-- each target is a node
pub record InRange (E : List (List ℕ)) : Type 0 where
  pub few : length E ≤ 4096
  pub short : (i : ℕ) (js : List ℕ) → slice_get E i ≡ Some js → length js ≤ 4096
  pub targets : (i p j : ℕ) (js : List ℕ) → slice_get E i ≡ Some js → slice_get js p ≡ Some j → j < length E

-- while a visit goes on, the node is on the stack or has its rank
abbrev pub IsUnderWay : List Mark → ℕ → Type 0
IsUnderWay M root = ((d : ℕ) × (slice_get M root ≡ Some (Open d))) ⊎ IsRanked M root

-- a turn keeps what is known, and leaves less to do
pub record Walked (E : List (List ℕ)) (M M' : List Mark) (S' : List Frame) (w : ℕ) : Type 0 where
  pub right : AreRight E M'
  pub stack : IsStack E M' S'
  pub extends : Extends M M'
  pub under_way : (i : ℕ) → IsUnderWay M i → IsUnderWay M' i
  pub less : walk_work E M' S' < w

abbrev pub frame_nodes : List Frame → List ℕ
frame_nodes S = map (λ f. f.node) S

-- a turn finds a cycle, which the stack holds from a place on, or leaves less to do
abbrev pub StepsWalk : List (List ℕ) → List Mark → List Mark → List Frame → ℕ → Option ℕ → Type 0
StepsWalk E M M' S' w None = Walked E M M' S' w
StepsWalk E M M' S' w (Some d) = IsCycle E (frame_nodes (drop d S'))

abbrev pub lists_in : List (Vec ℕ Global) → List (List ℕ)
lists_in es = map (λ v. v.items) es

-- no node is open
abbrev pub NoneOpen : List Mark → Type 0
NoneOpen M = (i d : ℕ) → slice_get M i ≡ Some (Open d) → ⊥

-- a visit finds a cycle, or gives the node its rank
pub record Visited (E : List (List ℕ)) (M M' : List Mark) (root : ℕ) : Type 0 where
  pub right : AreRight E M'
  pub closed : NoneOpen M'
  pub extends : Extends M M'
  pub ranked : IsRanked M' root

abbrev pub Visits : List (List ℕ) → List Mark → List Mark → ℕ → Option (Vec ℕ Global) → Type 0
Visits E M M' root None = Visited E M M' root
Visits E M M' root (Some cycle) = IsCycle E cycle.items

-- the lengths of the longest chains, or the cycle that begins at the least node on any
abbrev pub IsRanking : List (List ℕ) → Ranking → Type 0
IsRanking E (Ranks v) = AreRanks E v.items × ((i : ℕ) → slice_index v.items i ≤ 4096)
IsRanking E (Cycle v) = IsCycle E v.items × BeginsLeast E v.items

-- the nodes below one have their rank
pub record AreRanked (M : List Mark) (n : ℕ) : Type 0 where
  pub each : (i : ℕ) → i < n → IsRanked M i
