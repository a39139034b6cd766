use Rattle.std.proofs.Common.{rules, ◌≡◌, Err}
use Rattle.cert_values.specs.View.{view}
use Rattle.cert_facts.specs.JsonParts.{node_text_in}
use Rattle.cert_text.specs.View.{context_in}
use Rattle.cert_text.proofs.LawfulNodes.{pushed}
use Rattle.cert_text.proofs.NodeLists.{added_stop, added}
use Rattle.cert_text.proofs.nodes.push_node.Goals as goal

pub returns-in_err-next-clause-told : goal.returns-in_err-next-clause-told
returns-in_err-next-clause-told c =
    let o : c.from_residual.result ≡ Err c.in_err-next.field-0.0 = search rules in
    rw o
    (added_stop (context_in c.args.c.now) c.args.node c.as_slice.result.now c.args.nodes.now.items
    (node_text_in (view c.args.value.now)) c.in_err-next.field-0.0 c.as_slice.ensures.value c.in_err-next.ensures.told)

pub returns-clause-told : goal.returns-clause-told
returns-clause-told c = added (context_in c.args.c.now) c.args.node c.as_slice.result.now c.args.nodes.now.items c.push.new.self.items c.in_ok-next.next
    (node_text_in (view c.args.value.now)) c.as_slice.ensures.value c.in_ok-push.ensures.items c.in_ok-next.ensures.told

pub returns-clause-lawful : goal.returns-clause-lawful
returns-clause-lawful c = pushed c.args.c.now.a.now c.args.c.now.b.now c.args.c.now.places.now.positions.now c.as_slice.result.now c.args.nodes.now.items
    c.push.new.self.items c.in_ok-next.next c.as_slice.ensures.value c.in_ok-push.ensures.items c.in_ok-next.ensures.of
