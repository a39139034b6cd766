-- The lines of a graph.
use Rattle.std.specs.Prelude.{ℕ, Bool, cond, List, [], ◌++◌, codes}
use Rattle.show_machine_pictures.specs.declared.graphs.Look.{Look}
use Rattle.show_machine_pictures.specs.declared.graphs.Look.TheVariants.{Boxed, Bare, Marked}
use Rattle.show_machine_pictures.specs.Quotes.{quoted_text}

-- how a node looks
abbrev pub look_text : Look → List ℕ
look_text Boxed = codes ", shape=box"
look_text Bare = codes ", shape=plaintext"
look_text Marked = codes ", shape=box, color=red"

-- how an edge looks that stands out
abbrev pub mark_text : Bool → List ℕ
mark_text marked = cond marked (codes ", color=red") []

-- the end of a line: a label, and how it looks
unfoldable pub label_text : (label look : List ℕ) → List ℕ
label_text label look = codes " [label=" ++ (quoted_text label ++ (look ++ codes "];\n"))

-- a node: its name and its label
unfoldable pub node_line : (name label : List ℕ) → Look → List ℕ
node_line name label look = codes "  " ++ (quoted_text name ++ label_text label (look_text look))

-- an edge: the names of its nodes, and its label
unfoldable pub edge_line : (from to label : List ℕ) → (marked : Bool) → List ℕ
edge_line from to label marked = codes "  "
    ++ (quoted_text from ++ (codes " -> " ++ (quoted_text to ++ label_text label (mark_text marked))))

-- a graph with these lines
unfoldable pub graph_text : (lines : List ℕ) → List ℕ
graph_text lines = codes "digraph {\n" ++ (lines ++ codes "}\n")
