use Rattle.std.proofs.Common.{rules, ◌≡◌, ◌≤◌, ◌∙◌, [], Err, ap, sym, length, arith}
use Rattle.cert_values.specs.View.{view, items_view}
use Rattle.cert_facts.specs.JsonParts.{node_texts, file_nodes}
use Rattle.cert_text.specs.CertificateReading.{nodes_read}
use Rattle.cert_text.specs.View.{context_in}
use Rattle.cert_text.proofs.Contexts.{taken_stop}
use Rattle.cert_text.proofs.Shapes.{nodes_few}
use Rattle.cert_text.proofs.reader.read_against.Goals as goal

pub returns-in_err-nodes-clause-told : goal.returns-in_err-nodes-clause-told
returns-in_err-nodes-clause-told c =
    let o : c.from_residual.result ≡ Err c.in_err-nodes.field-0.0 = search rules in
    rw o
    (taken_stop (context_in c.args.c.now) (node_texts (items_view c.take_items.result.items)) (file_nodes (view c.args.value.now)) c.in_err-nodes.field-0.0
    (ap node_texts c.take_items.ensures) c.in_err-nodes.ensures.told)

pub returns-clause-told : goal.returns-clause-told
returns-clause-told c = ap (nodes_read (context_in c.args.c.now) 0 []) (sym (ap node_texts c.take_items.ensures)) ∙ c.in_ok-nodes.ensures.told

pub returns-clause-few : goal.returns-clause-few
returns-clause-few c =
    let few : length c.take_items.result.items ≤ 4096 = nodes_few (view c.args.value.now) c.take_items.result.items c.take_items.ensures c.requires.few in
    omega (arith, few, c.in_ok-nodes.ensures.count)
