-- The nodes of a table, one after another: what was drawn before, and what is drawn of those that are left.
use Rattle.std.proofs.Common.{◌≡◌, ◌∙◌, ℕ, ◌+◌, ◌<◌, List, ◌++◌, length, drop, get_or, ap, sym, append_assoc}
use Rattle.fs_model.proofs.Lists.{map_drop_next}
use Rattle.search_tables.specs.declared.nodes.SearchNode.{SearchNode as CodeNode}
use Rattle.search_tables.specs.SearchTables.{MachinePair}
use Rattle.search_tables.specs.View.{search_node_in, table_in}
use Rattle.show_search_views.specs.SearchPictures.{table_node_line, table_node_lines}

-- a node is drawn behind those before it, and before those that are left
pub next_drawn : (m : MachinePair) (marks : List ℕ) (ns : List CodeNode) (i : ℕ) (n : CodeNode) → i < length ns → n ≡ get_or ns i n
    → (old new whole : List ℕ) → new ≡ old ++ table_node_line m marks i (search_node_in n)
    → old ++ table_node_lines m marks i (table_in (drop i ns)) ≡ whole → new ++ table_node_lines m marks (i + 1) (table_in (drop (i + 1) ns)) ≡ whole
next_drawn m marks ns i n h is old new whole drawn before =
    let rest = table_node_lines m marks (i + 1) (table_in (drop (i + 1) ns)) in
    ap (λ r. r ++ rest) drawn
    ∙ append_assoc old (table_node_line m marks i (search_node_in n)) rest
    ∙ ap (λ r. old ++ r) (sym (ap (table_node_lines m marks i) (map_drop_next search_node_in ns i n h is)))
    ∙ before
