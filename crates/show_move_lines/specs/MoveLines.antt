-- The lines that tell the moves of a search.
use Rattle.std.specs.Prelude.{ℕ, List, [], ◌∷◌, ◌++◌, Option, Some, None, slice_get, codes}
use Rattle.fs_model.specs.Machines.{Fsmd}
use Rattle.fs_cut.specs.Paths.{Point, Start, Path}
use Rattle.fs_pair.specs.declared.positions.Position.{Position}
use Rattle.fs_model.specs.declared.sides.Pos.{Pos}
use Rattle.sym_paths.specs.Execution.{Post}
use Rattle.sym_facts.specs.Facts.{Fact}
use Rattle.sym_facts.specs.Entailment.{Missing}
use Rattle.sym_facts.specs.Starts.{start_fact}
use Rattle.fs_cut.specs.PathTexts.{named_path}
use Rattle.search_tables.specs.declared.moves.Move.{Move}
use Rattle.search_tables.specs.SearchTables.{MachinePair, SearchNode, Table, first_table, positions_of}
use Rattle.fsmd_replies.specs.ObstacleTexts.{text_of_lookup, both_sides, side_text}
use Rattle.show_fact_text.specs.FactLines.{fact_lines}
use Rattle.show_fact_text.specs.LostLines.{lost_lines}
use Rattle.show_fact_text.specs.PointTexts.{points_text}
use Rattle.show_move_lines.specs.MoveReplays.{Turn, Idle, Makes, Weakens, turn_of_move, with_turn}
use Rattle.show_fact_text.specs.View.{position_name_in}

-- the path of a side that moves, and `-` for one that does not
abbrev pub shown_path : Fsmd → (branch : Option ℕ) → Option Path → List ℕ
shown_path m None p = codes "-"
shown_path m (Some branch) p = text_of_lookup (named_path m) p

-- the paths of a move from a node, as the lines of obstacles have them
abbrev pub moved_text : MachinePair → SearchNode → Move → List ℕ
moved_text m n x = both_sides (side_text m.left n.left x.left) (side_text m.right n.right x.right)

abbrev pub moved_at : MachinePair → Move → Option SearchNode → List ℕ
moved_at m x None = []
moved_at m x (Some n) = moved_text m n x

-- the line of a move: its paths, what it does, and the node
abbrev pub move_line : MachinePair → Table → Move → (word : List ℕ) → (left right : Point) → List ℕ
move_line m T x word P Q = moved_at m x (slice_get T x.node) ++ (word ++ (points_text m P Q ++ codes "\n"))

-- the line of a node, and those of its fact
abbrev pub node_lines : (Pos → List ℕ) → MachinePair → (left right : Point) → Fact → List ℕ
node_lines name m P Q f = points_text m P Q ++ (codes "\n" ++ fact_lines (codes "  ") name f)

-- what the fact of a node lost
abbrev pub lost_at : (Pos → List ℕ) → Post → (new : Fact) → Missing → Option SearchNode → List ℕ
lost_at name post new x None = []
lost_at name post new x (Some n) = lost_lines name post n.fact new x

-- ---- moves

-- what a move does to a table
abbrev pub turn_lines : (Pos → List ℕ) → MachinePair → Table → Move → Turn → List ℕ
turn_lines name m T x Idle = []
turn_lines name m T x (Makes P Q f) = move_line m T x (codes " makes ") P Q ++ fact_lines (codes "  ") name f
turn_lines name m T x (Weakens k P Q post y f) = move_line m T x (codes " weakens ") P Q ++ lost_at name post f y (slice_get T k)

-- what moves do, one after another
abbrev pub turns_lines : List Position → MachinePair → Table → List Move → List ℕ
turns_lines ps m T [] = []
turns_lines ps m T (x ∷ xs) = turn_lines (position_name_in m) m T x (turn_of_move ps m T x)
    ++ turns_lines ps m (with_turn T (turn_of_move ps m T x)) xs

abbrev pub start_move_lines : MachinePair → List ℕ
start_move_lines m = node_lines (position_name_in m) m Start Start (start_fact (positions_of m))

-- the history of a search: the start node, and then what each move does
abbrev pub history_text : MachinePair → List Move → List ℕ
history_text m moves = start_move_lines m ++ turns_lines (positions_of m) m (first_table m) moves
