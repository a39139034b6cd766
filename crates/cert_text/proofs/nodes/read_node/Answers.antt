use Rattle.std.proofs.Common.{rules, ◌≡◌, Err, ap, ◌∙◌, map}
use Rattle.cert_values.specs.View.{view}
use Rattle.fs_cut.specs.View.{point_of}
use Rattle.cert_model.specs.View.{node_of}
use Rattle.cert_facts.specs.JsonParts.{node_text_in}
use Rattle.cert_text.specs.CertificateReading.{mode_named}
use Rattle.cert_text.specs.View.{context_in}
use Rattle.cert_text.proofs.NodeLists.{points_stop, fact_stop, node_told}
use Rattle.cert_text.proofs.nodes.read_node.Goals as goal

pub returns-in_err-left-clause-told : goal.returns-in_err-left-clause-told
returns-in_err-left-clause-told c =
    let o : c.from_residual.result ≡ Err c.in_err-left.field-0.0 = search rules in
    rw o
    (points_stop (context_in c.args.c.now) c.args.node (map node_of c.args.earlier.now)
    (node_text_in (view c.args.value.now)) c.as_bytes.result.now c.as_bytes-2.result.now
    (c.as_bytes.ensures.value ∙ c.text_at.ensures) (c.as_bytes-2.ensures.value ∙ c.text_at-2.ensures) c.in_err-left.field-0.0 c.in_err-left.ensures.told)

pub returns-in_err-fact-clause-told : goal.returns-in_err-fact-clause-told
returns-in_err-fact-clause-told c =
    let o : c.from_residual-in_err-fact.result ≡ Err c.in_err-fact.field-0.0 = search rules in
    rw o
    (fact_stop (context_in c.args.c.now) c.args.node (map node_of c.args.earlier.now)
    (node_text_in (view c.args.value.now)) c.as_bytes.result.now c.as_bytes-2.result.now
    (c.as_bytes.ensures.value ∙ c.text_at.ensures) (c.as_bytes-2.ensures.value ∙ c.text_at-2.ensures) (point_of c.in_ok-left.left)
    (point_of c.in_ok-left.right) c.in_ok-left.ensures.told c.in_err-fact.field-0.0 c.in_err-fact.ensures.told)

pub returns-clause-told : goal.returns-clause-told
returns-clause-told c =
    node_told (context_in c.args.c.now) c.args.node (map node_of c.args.earlier.now)
    (node_text_in (view c.args.value.now)) c.as_bytes.result.now c.as_bytes-2.result.now (c.as_bytes.ensures.value ∙ c.text_at.ensures)
    (c.as_bytes-2.ensures.value ∙ c.text_at-2.ensures) (point_of c.in_ok-left.left)
    (point_of c.in_ok-left.right) c.in_ok-left.ensures.told c.mode_named.result c.rank_of.result c.in_ok-fact.fact
    (c.mode_named.ensures ∙ ap mode_named c.text_at-3.ensures)
    c.rank_of.ensures.same c.in_ok-fact.ensures.told
