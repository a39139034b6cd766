-- A search for a way back to a node, and what is known of it.
use Rattle.std.specs.Prelude.{◌≡◌, ◌≢◌, ◌⊎◌, ℕ, suc, ◌+◌, ◌-◌, ◌<◌, Bool, true, false, List, [], ◌∷◌, ◌++◌, length, map, Vec}
use Rattle.std.specs.Prelude.{Option, Some, None, slice_get, slice_set, sum_by}
use Rattle.std.specs.Global.{Global}
use Rattle.std.specs.List.{slice_index_or}
use Rattle.search_tables.specs.Graphs.{HasEdge, IsCycle, BeginsLeast}
use Rattle.search_tables.specs.declared.marks.Step.{Step}

-- the node was seen, and is not the root
pub record IsFine (seen : List Bool) (root j : ℕ) : Type 0 where
  pub is_seen : slice_get seen j ≡ Some true
  pub other : j ≢ root

-- the first targets were seen, and none of them is the root
abbrev pub AreFine : List Bool → ℕ → List ℕ → ℕ → Type 0
AreFine seen root js n = (place j : ℕ) → place < n → slice_get js place ≡ Some j → IsFine seen root j

-- the node is on the path, and its targets were looked at up to the next
pub record IsOnPath (seen : List Bool) (S : List Step) (root i : ℕ) (js : List ℕ) : Type 0 where
  pub depth : ℕ
  pub step : Step
  pub at : slice_get S depth ≡ Some step
  pub node : step.node ≡ i
  pub fine : AreFine seen root js step.next

-- the path leads from the root along edges; each node that was seen is on it, or all its targets were seen and none is the root
pub record IsSearch (E : List (List ℕ)) (seen : List Bool) (S : List Step) (root : ℕ) : Type 0 where
  pub count : length seen ≡ length E
  pub root_seen : slice_get seen root ≡ Some true
  pub first : (f : Step) → slice_get S 0 ≡ Some f → f.node ≡ root
  pub steps : (d : ℕ) (f g : Step) → slice_get S d ≡ Some f → slice_get S (suc d) ≡ Some g → HasEdge E f.node g.node
  pub within : (d : ℕ) (f : Step) → slice_get S d ≡ Some f → f.node < length E
  pub looked : (i : ℕ) (js : List ℕ) → slice_get seen i ≡ Some true → slice_get E i ≡ Some js
      → AreFine seen root js (length js) ⊎ IsOnPath seen S root i js

-- what there is to do
abbrev pub unseen_work : List (List ℕ) → List Bool → ℕ
unseen_work [] seen = 0
unseen_work (js ∷ E) [] = 0
unseen_work (js ∷ E) (true ∷ seen) = unseen_work E seen
unseen_work (js ∷ E) (false ∷ seen) = (length js + 2) + unseen_work E seen

abbrev pub step_work : List (List ℕ) → Step → ℕ
step_work E f = (length (slice_index_or E f.node []) - f.next) + 1

abbrev pub way_work : List (List ℕ) → List Bool → List Step → ℕ
way_work E seen S = unseen_work E seen + sum_by (step_work E) S

abbrev pub step_at : ℕ → ℕ → Step
step_at i n = record { node = i; next = n }

-- the node was seen, and nothing changes; or it is new, and is seen now and ends the path
abbrev pub IsEntered : List Bool → List Bool → List Step → List Step → ℕ → Type 0
IsEntered seen seen' S S' j =
    ((slice_get seen j ≡ Some true) × (seen' ≡ seen) × (S' ≡ S))
    ⊎ ((slice_get seen j ≡ Some false) × (seen' ≡ slice_set seen j true) × (S' ≡ S ++ step_at j 0 ∷ []))

abbrev pub steps_in : List Step → List ℕ
steps_in S = map (λ f. f.node) S

-- these nodes are a cycle that begins at the root
pub record IsWayBack (E : List (List ℕ)) (root : ℕ) (xs : List ℕ) : Type 0 where
  pub rest : List ℕ
  pub begins : xs ≡ root ∷ rest
  pub is_cycle : IsCycle E xs

-- a turn keeps what is known, and leaves less to do
pub record GoesOn (E : List (List ℕ)) (seen : List Bool) (S : List Step) (root w : ℕ) : Type 0 where
  pub search : IsSearch E seen S root
  pub less : way_work E seen S < w

abbrev pub AfterTurn : List (List ℕ) → List Bool → List Step → ℕ → ℕ → Bool → Type 0
AfterTurn E seen S root w false = GoesOn E seen S root w
AfterTurn E seen S root w true = IsWayBack E root (steps_in S)

-- no cycle begins at the node
abbrev pub NoWayBack : List (List ℕ) → ℕ → Type 0
NoWayBack E root = (xs : List ℕ) → IsCycle E (root ∷ xs) → ⊥

abbrev pub GoesBack : List (List ℕ) → ℕ → Option (Vec ℕ Global) → Type 0
GoesBack E root None = NoWayBack E root
GoesBack E root (Some v) = IsWayBack E root v.items

-- no cycle begins at a node below n
pub record NoneBelow (E : List (List ℕ)) (n : ℕ) : Type 0 where
  pub each : (i : ℕ) → i < n → NoWayBack E i

-- the cycle that begins at the least node on any, or none where there is none
abbrev pub IsLeastCycle : List (List ℕ) → Option (Vec ℕ Global) → Type 0
IsLeastCycle E None = NoneBelow E (length E)
IsLeastCycle E (Some v) = IsCycle E v.items × BeginsLeast E v.items
