-- The lines of the nodes of certificates.
use Rattle.std.specs.Prelude.{ℕ, ◌+◌, List, [], ◌∷◌, ◌++◌, codes}
use Rattle.cert_bisimulation.specs.Tables.{Node}
use Rattle.sym_facts.specs.Facts.{Fact}
use Rattle.cert_writer.specs.WrittenCertificates.{mode_written}
use Rattle.search_tables.specs.SearchTables.{MachinePair}
use Rattle.show_fact_text.specs.FactLines.{fact_lines}
use Rattle.show_fact_text.specs.PointTexts.{points_text}
use Rattle.show_fact_text.specs.View.{position_name_in}
use Rattle.show_certificate_lines.specs.Cases.{case_at, telling_lines}

-- the node at a place: its points, which case it is, and its mode
unfoldable pub node_heading : MachinePair → (all : List (Node Fact)) → (place : ℕ) → Node Fact → List ℕ
node_heading m all k n = points_text m n.left n.right ++ (case_at all k n ++ (codes ", " ++ (mode_written n.mode ++ codes "\n")))

-- the same with what tells it from the others, and its fact
abbrev pub node_text : MachinePair → (all : List (Node Fact)) → (place : ℕ) → Node Fact → List ℕ
node_text m all k n = node_heading m all k n
    ++ (telling_lines (position_name_in m) all n ++ fact_lines (codes "  ") (position_name_in m) n.fact)

-- nodes of a certificate, from a place on
abbrev pub node_texts : MachinePair → (all : List (Node Fact)) → (place : ℕ) → List (Node Fact) → List ℕ
node_texts m all k [] = []
node_texts m all k (n ∷ ns) = node_text m all k n ++ node_texts m all (k + 1) ns

-- the nodes of a certificate in order, behind a heading
abbrev pub certificate_lines : (heading : List ℕ) → MachinePair → List (Node Fact) → List ℕ
certificate_lines heading m nodes = heading ++ node_texts m nodes 0 nodes
