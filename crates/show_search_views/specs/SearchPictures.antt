-- The picture of a search: the nodes of its table, and its moves as edges.
use Rattle.std.specs.Prelude.{◌≡◌, ℕ, ◌+◌, ◌==◌, false, cond, List, [], ◌∷◌, ◌++◌, length, slice_get, codes, decimal}
use Rattle.std.specs.List.{list_any}
use Rattle.fs_pair.specs.declared.positions.Position.{Position}
use Rattle.show_machine_pictures.specs.declared.graphs.Look.{Look}
use Rattle.show_machine_pictures.specs.declared.graphs.Look.TheVariants.{Boxed, Marked}
use Rattle.show_machine_pictures.specs.DotLines.{node_line, edge_line, graph_text}
use Rattle.search_tables.specs.declared.moves.Move.{Move}
use Rattle.search_tables.specs.declared.outcome.Outcome.{Outcome}
use Rattle.search_tables.specs.declared.outcome.Outcome.TheVariants.{Closed, Stuck, Spin, Wide, Large, Exhausted}
use Rattle.search_tables.specs.SearchTables.{MachinePair, SearchNode, Table, first_table, positions_of}
use Rattle.search_tables.specs.Legal.{Makes}
use Rattle.fsmd_pair_answers.specs.SearchOutcomes.{IsSearchOutcome}
use Rattle.show_fact_text.specs.FactLines.{fact_lines}
use Rattle.show_fact_text.specs.PointTexts.{points_text}
use Rattle.show_fact_text.specs.View.{position_name_in}
use Rattle.show_move_lines.specs.MoveReplays.{Turn, Idle, Makes as MakesNode, Weakens, turn_of_move, with_turn, with_turns}
use Rattle.show_move_lines.specs.MoveLines.{moved_at}

-- ---- nodes

-- the nodes at which a search stops
abbrev pub marks_of : Outcome → List ℕ
marks_of (Closed cert) = []
marks_of (Stuck moves points node output) = node ∷ []
marks_of (Spin moves points side cycle) = cycle.items
marks_of (Wide moves points at) = at.node ∷ []
marks_of (Large moves points at) = at.node ∷ []
marks_of (Exhausted moves points at what) = at.node ∷ []

abbrev pub look_at : (marks : List ℕ) → (number : ℕ) → Look
look_at marks k = cond (list_any (λ j. j == k) marks) Marked Boxed

-- the points of a node, and its fact
unfoldable pub node_label : MachinePair → SearchNode → List ℕ
node_label m n = points_text m n.left n.right ++ (codes "\n" ++ fact_lines [] (position_name_in m) n.fact)

abbrev pub table_node_line : MachinePair → (marks : List ℕ) → (number : ℕ) → SearchNode → List ℕ
table_node_line m marks k n = node_line (decimal k) (node_label m n) (look_at marks k)

-- nodes that are numbered from k on
abbrev pub table_node_lines : MachinePair → (marks : List ℕ) → (number : ℕ) → List SearchNode → List ℕ
table_node_lines m marks k [] = []
table_node_lines m marks k (n ∷ ns) = table_node_line m marks k n ++ table_node_lines m marks (k + 1) ns

-- ---- edges

-- a move to a node: its paths
abbrev pub move_edge : MachinePair → Table → Move → (to : ℕ) → List ℕ
move_edge m T x to = edge_line (decimal x.node) (decimal to) (moved_at m x (slice_get T x.node)) false

-- a move leads to the node that it makes, which goes last, or to the one that it weakens
abbrev pub turn_edge : MachinePair → Table → Move → Turn → List ℕ
turn_edge m T x Idle = []
turn_edge m T x (MakesNode P Q f) = move_edge m T x (length T)
turn_edge m T x (Weakens k P Q post y f) = move_edge m T x k

abbrev pub turns_edges : List Position → MachinePair → Table → List Move → List ℕ
turns_edges ps m T [] = []
turns_edges ps m T (x ∷ xs) = turn_edge m T x (turn_of_move ps m T x) ++ turns_edges ps m (with_turn T (turn_of_move ps m T x)) xs

-- ---- the graph

-- the nodes of the table that moves make, each once, and an edge for each move
abbrev pub search_picture : MachinePair → (marks : List ℕ) → List Move → List ℕ
search_picture m marks moves =
    graph_text (table_node_lines m marks 0 (with_turns (positions_of m) m (first_table m) moves)
    ++ turns_edges (positions_of m) m (first_table m) moves)

-- nodes stand out at which the search of two machines stops
pub record AreMarks (m : MachinePair) (marks : List ℕ) : Type 0 where
  pub outcome : Outcome
  pub searched : IsSearchOutcome m outcome
  pub are : marks ≡ marks_of outcome

-- a legal list of moves is shown, and where the search stops stands out
pub record IsPicture (m : MachinePair) (text : List ℕ) : Type 0 where
  pub outcome : Outcome
  pub searched : IsSearchOutcome m outcome
  pub moves : List Move
  pub table : Table
  pub makes : Makes m moves table
  pub told : text ≡ search_picture m (marks_of outcome) moves
