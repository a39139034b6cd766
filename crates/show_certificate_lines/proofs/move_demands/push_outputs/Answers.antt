use Rattle.search_tables.specs.SearchTables.{machines}
use Rattle.cert_model.specs.View.{node_of}
use Rattle.std.proofs.Common.{[], ◌∷◌, map}
use Rattle.show_fact_text.proofs.Loops.{next_more}
use Rattle.show_certificate_lines.specs.Demands.{output_demands}
use Rattle.show_certificate_lines.proofs.Outputs.{outputs_split}
use Rattle.show_certificate_lines.proofs.move_demands.push_outputs.Goals as goal

pub loop-variable-preserved : goal.loop-variable-preserved
loop-variable-preserved c =
    let m = machines c.args.a.now c.args.b.now in
    let ns = map node_of c.args.nodes.now in
    let k = c.args.place in
    let n = node_of c.args.node.now in
    next_more (output_demands m ns k n) (λ v. output_demands m ns k n (v ∷ [])) (outputs_split m ns k n) c.args.variables.now c.loop-variable.variable-index
    c.variable-item.result c.loop-variable-test.true c.variable-item.is _ _ _ c.in_ok-push_output.ensures c.loop-variable.invariant
