use Rattle.std.proofs.Common.{map, ap, ◌∙◌}
use Rattle.serde_json.specs.Data.{array, object, no_members}
use Rattle.serde_json.specs.View.{view}
use Rattle.cert_model.specs.View.{node_of}
use Rattle.cert_json.specs.WrittenJson.{texts}
use Rattle.cert_writer.specs.WrittenCertificates.{literal_bytes, equations_written}
use Rattle.cert_writer.specs.View.{names_in}
use Rattle.cert_writer.proofs.Values.{node_is}
use Rattle.cert_writer.proofs.nodes.value_of.Goals as goal

pub returns-clause-written : goal.returns-clause-written
returns-clause-written c = node_is c.args.names.now.a.now c.args.names.now.b.now (node_of c.args.node.now) (view c.in_ok-value.value) (view c.in_ok-conds.conds)
    (view c.in_ok-equations.equations) c.point_text-left.result.now c.mode_text.result.now c.point_text-right.result.now c.in_ok-value.ensures
    (c.in_ok-conds.ensures ∙ ap (λ ls. array (texts (map (literal_bytes (names_in c.args.names.now)) ls))) c.conds.ensures.same)
    (c.in_ok-equations.ensures.written ∙ ap (λ qs. object (equations_written (names_in c.args.names.now) no_members qs)) c.positions.ensures.same)
    c.point_text-left.ensures c.mode_text.ensures c.point_text-right.ensures
