use Rattle.std.proofs.Common.{◌≡◌, ◌++◌, map, drop}
use Rattle.cert_model.specs.View.{node_of}
use Rattle.show_fact_text.specs.View.{side_names_in}
use Rattle.show_certificate_lines.specs.Cases.{line_texts}
use Rattle.show_certificate_lines.proofs.telling.lines_of_each.Given as goal

abbrev pub invariant-loop-node : goal.invariant-loop-node
invariant-loop-node l =
    map (λ lines. map (λ t. t.items) lines.items) l.facts.items
    ++ map (λ n. line_texts l.before (side_names_in l.names) n.fact) (map (λ n. node_of n.now) (drop l.node-index l.nodes))
    ≡ map (λ n. line_texts l.before (side_names_in l.names) n.fact) (map (λ n. node_of n.now) l.nodes)
