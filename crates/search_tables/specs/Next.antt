-- What is next in a table.
use Rattle.std.specs.Prelude.{◌≡◌, ℕ, ◌+◌, List, [], ◌∷◌, map, Some, None}
use Rattle.std.specs.List.{flat_map}
use Rattle.std.specs.Option.{option_map}
use Rattle.fs_cut.specs.Covers.{paths_of}
use Rattle.cert_bisimulation.specs.declared.mode.Mode.{Mode}
use Rattle.cert_bisimulation.specs.declared.mode.Mode.TheVariants.{Both, Left, Right, End}
use Rattle.fs_model.specs.declared.sides.Side.{Side}
use Rattle.fs_model.specs.declared.sides.Side.TheVariants as side
use Rattle.propagate.specs.Modes.{Traced, Found, WideAt, LargeAt, mode_of}
use Rattle.search_tables.specs.declared.moves.Move.{Move}
use Rattle.search_tables.specs.declared.outcome.Budget.{Budget}
use Rattle.search_tables.specs.SearchTables.{MachinePair, SearchNode, Table, PathPair, Event, WideEvent, LargeEvent, MoveEffect}
use Rattle.search_tables.specs.SearchTables.{Keeps, Changes, Meets, Exceeds, effect}

-- the mode of a node under its fact
abbrev pub mode_at : MachinePair → SearchNode → Traced Mode
mode_at m n = mode_of m.left m.right n.fact n.left n.right

-- the paths by which a node moves in a mode, in order of the left branch and then of the right one
abbrev pub paths_in : MachinePair → SearchNode → Mode → List PathPair
paths_in m n Both = flat_map (λ p. map (λ q. record { left = Some p; right = Some q }) (paths_of m.right n.right))
    (paths_of m.left n.left)
paths_in m n Left = map (λ p. record { left = Some p; right = None }) (paths_of m.left n.left)
paths_in m n Right = map (λ q. record { left = None; right = Some q }) (paths_of m.right n.right)
paths_in m n End = []

-- the move of node i by paths: their branches
abbrev pub move_by : ℕ → PathPair → Move
move_by i x = record { node = i; left = option_map (λ p. p.branch) x.left; right = option_map (λ p. p.branch) x.right }

-- one path alone, at which a mode meets an event
abbrev pub path_at : ℕ → Side → (branch : ℕ) → Move
path_at i side.Left k = record { node = i; left = Some k; right = None }
path_at i side.Right k = record { node = i; left = None; right = Some k }

-- what is next: nothing, or the first move that changes the table, that meets an event, or that is over a budget. Where a mode
-- meets an event, the move is the one path whose conditions were evaluated
pub data Next : Type 0 where
  Nothing : Next
  Change : Move → Table → Next
  Stop : Move → Event → Next
  Excess : Move → Budget → Next

-- a move that keeps the table is passed over
abbrev pub next_by : Move → MoveEffect → (later : Next) → Next
next_by x Keeps later = later
next_by x (Changes U) later = Change x U
next_by x (Meets e) later = Stop x e
next_by x (Exceeds b) later = Excess x b

-- the first of a node's moves that doesn't keep the table
abbrev pub first_change_of : MachinePair → Table → ℕ → SearchNode → List PathPair → Next
first_change_of m T i n [] = Nothing
first_change_of m T i n (x ∷ xs) = next_by (move_by i x) (effect m T n x) (first_change_of m T i n xs)

abbrev pub next_in : MachinePair → Table → ℕ → SearchNode → Traced Mode → Next
next_in m T i n (Found x) = first_change_of m T i n (paths_in m n x)
next_in m T i n (WideAt d k left right) = Stop (path_at i d k) (WideEvent left right)
next_in m T i n (LargeAt d k units depth) = Stop (path_at i d k) (LargeEvent units depth)

-- what is next at a node: its mode is found, and then its moves are valued in order
abbrev pub next_at : MachinePair → Table → ℕ → SearchNode → Next
next_at m T i n = next_in m T i n (mode_at m n)

-- the first that is not nothing
abbrev pub or_next : Next → (later : Next) → Next
or_next Nothing later = later
or_next (Change x U) later = Change x U
or_next (Stop x e) later = Stop x e
or_next (Excess x b) later = Excess x b

abbrev pub next_from : MachinePair → Table → ℕ → List SearchNode → Next
next_from m T i [] = Nothing
next_from m T i (n ∷ ns) = or_next (next_at m T i n) (next_from m T (i + 1) ns)

-- what is next in a table, looked for from the first node on
abbrev pub next_move : MachinePair → Table → Next
next_move m T = next_from m T 0 T

abbrev pub IsClosed : MachinePair → Table → Type 0
IsClosed m T = next_move m T ≡ Nothing
