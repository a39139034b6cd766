-- The cases of a certificate: nodes that share their points.
use Rattle.std.specs.Prelude.{ℕ, ◌+◌, nat_lt, Bool, cond, List, [], ◌++◌, length, take, map, codes, decimal}
use Rattle.std.specs.List.{flat_map, list_all, list_any}
use Rattle.std.specs.Str.{bytes_eq}
use Rattle.fs_model.specs.declared.sides.Pos.{Pos}
use Rattle.cert_bisimulation.specs.Tables.{Node}
use Rattle.sym_facts.specs.Facts.{Fact}
use Rattle.cert_model.specs.Obligations.{nodes_at}
use Rattle.show_fact_text.specs.FactLines.{position_line, condition_line}

-- ---- which case a node is

unfoldable pub case_words : (number count : ℕ) → List ℕ
case_words k n = codes " case " ++ (decimal k ++ (codes " of " ++ decimal n))

-- one of so many; a node that stands alone is not numbered
abbrev pub case_text : (number count : ℕ) → List ℕ
case_text k n = cond (nat_lt 1 n) (case_words k n) []

-- the node at a place, of those at its points, in order
abbrev pub case_at : List (Node Fact) → (place : ℕ) → Node Fact → List ℕ
case_at ns k n = case_text (length (nodes_at (take k ns) n.left n.right) + 1) (length (nodes_at ns n.left n.right))

-- ---- what tells a node from the others

-- the lines of a fact, one for each position and each literal, each behind a text; that of a free position is empty
abbrev pub line_texts : (before : List ℕ) → (Pos → List ℕ) → Fact → List (List ℕ)
line_texts before name f = map (position_line before name) f.positions ++ map (condition_line before name) f.literals

-- each of these facts has a line
abbrev pub is_shared : (facts : List (List (List ℕ))) → (line : List ℕ) → Bool
is_shared facts line = list_all (λ lines. list_any (bytes_eq line) lines) facts

abbrev pub unless_shared : (facts : List (List (List ℕ))) → (line : List ℕ) → List ℕ
unless_shared facts line = cond (is_shared facts line) [] line

-- the lines of a node's fact that not all nodes at its points have
abbrev pub telling_lines : (Pos → List ℕ) → List (Node Fact) → Node Fact → List ℕ
telling_lines name ns n =
    flat_map (unless_shared (map (λ t. line_texts (codes "  case ") name t.fact) (nodes_at ns n.left n.right)))
    (line_texts (codes "  case ") name n.fact)
