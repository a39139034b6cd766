-- The picture of a machine: its states and its branches as the nodes and edges of a graph.
use Rattle.std.specs.Prelude.{ℕ, ◌+◌, false, List, [], ◌∷◌, ◌++◌, length, codes, decimal}
use Rattle.std.specs.List.{flat_map, range_with_len}
use Rattle.fs_model.specs.declared.parts.VarInfo.{VarInfo}
use Rattle.fs_model.specs.Expressions.{Literal, Test, Assignment}
use Rattle.fs_model.specs.Renamed.{literal_over, assignment_over}
use Rattle.fs_model.specs.Machines.{Fsmd, transitions_of}
use Rattle.fs_model.specs.Trees.{Branch, branches_of}
use Rattle.fs_model.specs.VariableNames.{variable_name}
use Rattle.fs_ast.specs.StoredBranches.{state_name_of}
use Rattle.fs_write.specs.Canonical.{guard_text, assignment_text}
use Rattle.show_machine_pictures.specs.declared.graphs.Look.TheVariants.{Boxed, Bare}
use Rattle.show_machine_pictures.specs.DotLines.{node_line, edge_line, graph_text}

-- ---- the label of a branch

-- a literal and an assignment, as the text of a machine has them
unfoldable pub branch_literal_text : List VarInfo → Literal ℕ → List ℕ
branch_literal_text vs l = guard_text (Test (literal_over (variable_name vs) l))

unfoldable pub named_assignment_text : List VarInfo → Assignment ℕ → List ℕ
named_assignment_text vs a = assignment_text (assignment_over (variable_name vs) a)

-- a literal behind others
abbrev pub after_and : List VarInfo → Literal ℕ → List ℕ
after_and vs l = codes " && " ++ branch_literal_text vs l

-- all literals on the way of a branch
abbrev pub way_text : List VarInfo → List (Literal ℕ) → List ℕ
way_text vs [] = []
way_text vs (l ∷ ls) = codes " when " ++ (branch_literal_text vs l ++ flat_map (after_and vs) ls)

abbrev pub assignment_line : List VarInfo → Assignment ℕ → List ℕ
assignment_line vs a = named_assignment_text vs a ++ codes "\n"

-- the number of a branch and its guard on one line, and then each assignment on a line of its own
unfoldable pub branch_label : List VarInfo → (number : ℕ) → Branch → List ℕ
branch_label vs k b = decimal k ++ (way_text vs b.literals ++ (codes "\n" ++ flat_map (assignment_line vs) b.assignments))

-- ---- the graph

-- the edge of a branch of a state
abbrev pub branch_edge : Fsmd → (state number : ℕ) → Branch → List ℕ
branch_edge m q k b = edge_line (state_name_of m q) (state_name_of m b.target) (branch_label m.variables k b) false

-- the edges of branches of a state, numbered from k on
abbrev pub branch_edges : Fsmd → (state number : ℕ) → List Branch → List ℕ
branch_edges m q k [] = []
branch_edges m q k (b ∷ bs) = branch_edge m q k b ++ branch_edges m q (k + 1) bs

-- a state, and each of its branches
abbrev pub state_lines : Fsmd → (state : ℕ) → List ℕ
state_lines m q = node_line (state_name_of m q) (state_name_of m q) Boxed ++ branch_edges m q 0 (branches_of (transitions_of m q))

-- `start`, which no state is named, and the edge from it to the reset state
abbrev pub start_lines : Fsmd → List ℕ
start_lines m = node_line (codes "start") (codes "start") Bare ++ edge_line (codes "start") (state_name_of m m.reset) [] false

-- the picture of a machine: each state once, in order, with each of its branches once
abbrev pub picture_of : Fsmd → List ℕ
picture_of m = graph_text (start_lines m ++ flat_map (state_lines m) (range_with_len 0 (length m.states)))
