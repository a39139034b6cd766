-- Graphs, as a list of targets for each node: cycles, the one that begins at the least node, and ranks.
use Rattle.std.specs.Prelude.{◌≡◌, ◌≤◌, ℕ, suc, max, List, [], ◌∷◌, length, Some, slice_get, slice_index}

pub record HasEdge (E : List (List ℕ)) (i j : ℕ) : Type 0 where
  pub targets : List ℕ
  pub from : slice_get E i ≡ Some targets
  pub place : ℕ
  pub is_in : slice_get targets place ≡ Some j

abbrev pub first_or : List ℕ → ℕ → ℕ
first_or [] z = z
first_or (x ∷ xs) z = x

-- the nodes follow one another, and the last leads to z
abbrev pub Follow : List (List ℕ) → List ℕ → ℕ → Type 0
Follow E [] z = Unit {0}
Follow E (x ∷ xs) z = HasEdge E x (first_or xs z) × Follow E xs z

-- the nodes follow one another, the last leading to the first
abbrev pub IsCycle : List (List ℕ) → List ℕ → Type 0
IsCycle E [] = ⊥
IsCycle E (x ∷ xs) = Follow E (x ∷ xs) x

-- the first of these nodes is the least that lies on any cycle
abbrev pub BeginsLeast : List (List ℕ) → List ℕ → Type 0
BeginsLeast E xs = (ys : List ℕ) (place y : ℕ) → IsCycle E ys → slice_get ys place ≡ Some y → first_or xs 0 ≤ y

-- each node is a target of the one before, the first one of node i: a chain of as many edges
abbrev pub IsChain : List (List ℕ) → ℕ → List ℕ → Type 0
IsChain E i [] = Unit {0}
IsChain E i (x ∷ xs) = HasEdge E i x × IsChain E x xs

-- a longest chain from a node, of n edges
pub record LongestChain (E : List (List ℕ)) (i n : ℕ) : Type 0 where
  pub nodes : List ℕ
  pub is_chain : IsChain E i nodes
  pub count : length nodes ≡ n
  pub longest : (xs : List ℕ) → IsChain E i xs → length xs ≤ n

-- one more than the greatest rank of these nodes, and 0 where there are none
abbrev pub above : List ℕ → List ℕ → ℕ
above ranks [] = 0
above ranks (j ∷ js) = max (suc (slice_index ranks j)) (above ranks js)

-- the length of the longest chain of edges from each node
pub record AreRanks (E : List (List ℕ)) (ranks : List ℕ) : Type 0 where
  pub count : length ranks ≡ length E
  pub each : (i : ℕ) (js : List ℕ) → slice_get E i ≡ Some js → slice_index ranks i ≡ above ranks js
