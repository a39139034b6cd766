-- Tables of nodes, and what a move does to one.
use Rattle.std.specs.Prelude.{ℕ, ◌+◌, ◌&&◌, nat_lt, nat_le, Bool, cond, List, [], ◌∷◌, ◌++◌, length, sum_by, Option, slice_set}
use Rattle.fs_model.specs.Machines.{Fsmd}
use Rattle.fs_pair.specs.declared.positions.Position.{Position}
use Rattle.fs_pair.specs.Positions.{positions}
use Rattle.fs_cut.specs.Paths.{Point, Start, Path}
use Rattle.fs_cut.specs.Covers.{same_point}
use Rattle.nf_terms.specs.Computed.{Computed, Done, Wide, Large}
use Rattle.nf_rel.specs.Literals.{is_refuted}
use Rattle.propagate.specs.Execution.{Post, arrive, end_of}
use Rattle.cert_model.specs.Facts.{Fact, vector_of, size_of_fact}
use Rattle.cert_model.specs.Entailment.{Missing, entails, is_nothing}
use Rattle.cert_model.specs.Starts.{start_fact}
use Rattle.propagate.specs.Joins.{join}
use Rattle.propagate.specs.Rebases.{rebase}
use Rattle.cert_model.specs.Lawful.{most_nodes}
use Rattle.search_tables.specs.declared.outcome.Budget.{Budget}
use Rattle.search_tables.specs.declared.outcome.Budget.TheVariants.{Nodes, Units}

-- the two machines
pub record MachinePair : Type 0 where
  pub left : Fsmd
  pub right : Fsmd

abbrev pub machines : (a b : Fsmd) → MachinePair
machines a b = record { left = a; right = b }

abbrev pub positions_of : MachinePair → List Position
positions_of m = positions m.left m.right

-- a pair of points, and what holds there
pub record SearchNode : Type 0 where
  pub left : Point
  pub right : Point
  pub fact : Fact

abbrev pub Table : Type 0
Table = List SearchNode

-- the most units of a table
abbrev pub most_units : ℕ
most_units = 4000000

-- the size of a table
abbrev pub units : Table → ℕ
units T = sum_by (λ n. size_of_fact n.fact) T

-- the table with which a search begins
abbrev pub start_node : MachinePair → SearchNode
start_node m = record { left = Start; right = Start; fact = start_fact (positions_of m) }

abbrev pub first_table : MachinePair → Table
first_table m = start_node m ∷ []

-- the first node at two points, with its number
pub data Target : Type 0 where
  Unknown : Target
  Known : ℕ → SearchNode → Target

abbrev pub is_at : Point → Point → SearchNode → Bool
is_at P Q n = same_point n.left P && same_point n.right Q

abbrev pub target_from : Point → Point → ℕ → List SearchNode → Target
target_from P Q i [] = Unknown
target_from P Q i (n ∷ ns) = cond (is_at P Q n) (Known i n) (target_from P Q (i + 1) ns)

abbrev pub node_target : Table → Point → Point → Target
node_target T P Q = target_from P Q 0 T

-- the first event of a move: an operation that is not narrow, by the weights of its sides, or one that is narrow and not small,
-- by its raw size and depth
pub data Event : Type 0 where
  WideEvent : (left right : ℕ) → Event
  LargeEvent : (units depth : ℕ) → Event

-- what a move does: it keeps the table, changes it, meets an event, or is over a budget
pub data MoveEffect : Type 0 where
  Keeps : MoveEffect
  Changes : Table → MoveEffect
  Meets : Event → MoveEffect
  Exceeds : Budget → MoveEffect

-- goes on with what is computed
abbrev pub with_computed : {T : Type 0} → Computed T → (T → MoveEffect) → MoveEffect
with_computed (Done t) next = next t
with_computed (Wide left right) next = Meets (WideEvent left right)
with_computed (Large units depth) next = Meets (LargeEvent units depth)

-- the table, where it is within the budget of units
abbrev pub within_units : Table → MoveEffect
within_units T = cond (nat_le (units T) most_units) (Changes T) (Exceeds Units)

-- a new node goes last
abbrev pub add_node : Table → Point → Point → Computed Fact → MoveEffect
add_node T P Q c = with_computed c (λ f. within_units (T ++ record { left = P; right = Q; fact = f } ∷ []))

-- node k has another fact
abbrev pub with_fact : Table → ℕ → SearchNode → Fact → Table
with_fact T k n f = slice_set T k (record { left = n.left; right = n.right; fact = f })

abbrev pub weaken_node : Table → ℕ → SearchNode → Computed Fact → MoveEffect
weaken_node T k n c = with_computed c (λ f. within_units (with_fact T k n f))

-- a known target keeps its fact where that is entailed, and gets the joined fact otherwise
abbrev pub keep_or_join : Table → ℕ → SearchNode → Post → Computed Missing → MoveEffect
keep_or_join T k n post c = with_computed c (λ x. cond (is_nothing x) Keeps (weaken_node T k n (join n.fact post x)))

-- an unknown target becomes a node with the rebased fact, where there is place for one more
abbrev pub look_up_target : List Position → Table → Point → Point → Post → Target → MoveEffect
look_up_target ps T P Q post Unknown = cond (nat_lt (length T) most_nodes) (add_node T P Q (rebase post ps)) (Exceeds Nodes)
look_up_target ps T P Q post (Known k n) = keep_or_join T k n post (entails post n.fact)

-- what arrives at two points: a refuted post does nothing
abbrev pub effect_of_arrival : List Position → Table → Point → Point → Computed Post → MoveEffect
effect_of_arrival ps T P Q c =
    with_computed c (λ post. cond (is_refuted post.conditions) Keeps (look_up_target ps T P Q post (node_target T P Q)))

-- one path of each side that moves
pub record PathPair : Type 0 where
  pub left : Option Path
  pub right : Option Path

-- what arrives by paths from a node
abbrev pub arrival : MachinePair → SearchNode → PathPair → Computed Post
arrival m n x = arrive m.left m.right n.fact.literals (vector_of n.fact.positions) x.left x.right

-- what moving from a node by these paths does to a table
abbrev pub effect : MachinePair → Table → SearchNode → PathPair → MoveEffect
effect m T n x = effect_of_arrival (positions_of m) T (end_of n.left x.left) (end_of n.right x.right) (arrival m n x)
