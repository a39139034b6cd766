-- The moves of a search, made again one after another.
use Rattle.std.specs.Prelude.{ℕ, List, [], ◌∷◌, ◌++◌, Option, Some, None, slice_get, slice_set}
use Rattle.std.specs.List.{AllByRecursion}
use Rattle.fs_model.specs.Machines.{Fsmd}
use Rattle.fs_cut.specs.Paths.{Point, Path}
use Rattle.fs_cut.specs.Covers.{paths_from, cover_of}
use Rattle.fs_pair.specs.declared.positions.Position.{Position}
use Rattle.nf_terms.specs.Computed.{Computed, Done, Wide, Large, after}
use Rattle.sym_paths.specs.Execution.{Post, arrive, end_of}
use Rattle.sym_facts.specs.Facts.{Fact, vector_of}
use Rattle.sym_facts.specs.Entailment.{Missing, entails}
use Rattle.sym_facts.specs.Pairings.{IsFactOf}
use Rattle.propagate.specs.Joins.{join}
use Rattle.propagate.specs.Rebases.{rebase}
use Rattle.search_places.specs.Moves.{path_in}
use Rattle.search_tables.specs.declared.moves.Move.{Move}
use Rattle.search_tables.specs.SearchTables.{MachinePair, SearchNode, Table, Target, Unknown, Known, node_target}

-- what a move does: nothing, it makes a node with a fact, or a node loses what was missing of a post, and has another fact then
pub data Turn : Type 0 where
  Idle : Turn
  Makes : (left right : Point) → Fact → Turn
  Weakens : (node : ℕ) → (left right : Point) → Post → Missing → Fact → Turn

-- the path of a machine from a point by a branch
abbrev pub branch_path : Fsmd → Point → Option ℕ → Option Path
branch_path m P branch = path_in (paths_from (cover_of m) P) branch

-- what a post does that arrives at two points
abbrev pub turn_at : List Position → (left right : Point) → Post → Target → Computed Turn
turn_at ps P Q post Unknown = after (rebase post ps) (λ f. Done (Makes P Q f))
turn_at ps P Q post (Known k n) = after (entails post n.fact)
    (λ x. after (join n.fact post x) (λ f. Done (Weakens k n.left n.right post x f)))

abbrev pub turn_by_paths : List Position → MachinePair → Table → SearchNode → (left right : Option Path) → Computed Turn
turn_by_paths ps m T n l r =
    after (arrive m.left m.right n.fact.literals (vector_of n.fact.positions) l r) (λ post.
    turn_at ps (end_of n.left l) (end_of n.right r) post (node_target T (end_of n.left l) (end_of n.right r)))

-- what a move from a node does
abbrev pub turn_from : List Position → MachinePair → Table → SearchNode → Move → Computed Turn
turn_from ps m T n x = turn_by_paths ps m T n (branch_path m.left n.left x.left) (branch_path m.right n.right x.right)

abbrev pub turn_by : List Position → MachinePair → Table → Move → Option SearchNode → Computed Turn
turn_by ps m T x None = Done Idle
turn_by ps m T x (Some n) = turn_from ps m T n x

-- an operation that is not narrow, or narrow and not small, does nothing
abbrev pub turn_or_idle : Computed Turn → Turn
turn_or_idle (Done t) = t
turn_or_idle (Wide left right) = Idle
turn_or_idle (Large units depth) = Idle

-- what a move does to a table
abbrev pub turn_of_move : List Position → MachinePair → Table → Move → Turn
turn_of_move ps m T x = turn_or_idle (turn_by ps m T x (slice_get T x.node))

-- the table after a turn
abbrev pub with_turn : Table → Turn → Table
with_turn T Idle = T
with_turn T (Makes P Q f) = T ++ record { left = P; right = Q; fact = f } ∷ []
with_turn T (Weakens k P Q post x f) = slice_set T k (record { left = P; right = Q; fact = f })

-- the table after moves
abbrev pub with_turns : List Position → MachinePair → Table → List Move → Table
with_turns ps m T [] = T
with_turns ps m T (x ∷ xs) = with_turns ps m (with_turn T (turn_of_move ps m T x)) xs

-- the facts of a table are of these positions, and so is that of a turn
abbrev pub AreOf : List Position → Table → Type 0
AreOf ps T = AllByRecursion (λ n. IsFactOf ps n.fact) T

abbrev pub HasFactOf : List Position → Turn → Type 0
HasFactOf ps Idle = Unit {0}
HasFactOf ps (Makes P Q f) = IsFactOf ps f
HasFactOf ps (Weakens k P Q post x f) = IsFactOf ps f
