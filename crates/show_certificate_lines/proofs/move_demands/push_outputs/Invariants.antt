use Rattle.std.proofs.Common.{◌≡◌, ◌++◌, map, drop}
use Rattle.cert_model.specs.View.{node_of}
use Rattle.search_tables.specs.SearchTables.{machines}
use Rattle.show_certificate_lines.specs.Demands.{output_demands}
use Rattle.show_certificate_lines.proofs.move_demands.push_outputs.Given as goal

abbrev pub invariant-loop-variable : goal.invariant-loop-variable
invariant-loop-variable l =
    map (λ t. t.items) l.out.items
    ++ output_demands (machines l.a l.b) (map node_of l.nodes) l.place (node_of l.node) (drop l.variable-index l.variables)
    ≡ map (λ t. t.items) l.fn.out.items ++ output_demands (machines l.a l.b) (map node_of l.nodes) l.place (node_of l.node) l.variables
