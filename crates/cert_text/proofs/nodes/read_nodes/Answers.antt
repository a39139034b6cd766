use Rattle.std.proofs.Common.{rules, suc, ◌≡◌, ◌+◌, Err, ap, ◌∙◌, map, length, arith}
use Rattle.cert_values.specs.View.{items_view}
use Rattle.cert_model.specs.View.{node_of}
use Rattle.cert_facts.specs.JsonParts.{node_texts}
use Rattle.cert_text.specs.CertificateReading.{nodes_read}
use Rattle.cert_text.specs.View.{context_in}
use Rattle.cert_text.proofs.NodeLists.{next_shaped, next_few, others_shaped, others_few, nodes_stop, nodes_more}
use Rattle.cert_text.proofs.nodes.read_nodes.Goals as goal

pub push_value-requires-clause-shape : goal.push_value-requires-clause-shape
push_value-requires-clause-shape c =
    next_shaped c.loop-value.rest.rest.items c.next.new.self.rest.items c.in-Some.value c.in-Some.ensures.cases.0 c.loop-value.invariant.shape

pub push_value-requires-clause-few : goal.push_value-requires-clause-few
push_value-requires-clause-few c = next_few c.loop-value.rest.rest.items c.next.new.self.rest.items c.in-Some.value c.in-Some.ensures.cases.0
    c.loop-value.invariant.few

pub returns-in_err-push_value-clause-told : goal.returns-in_err-push_value-clause-told
returns-in_err-push_value-clause-told c =
    let o : c.from_residual-in_err-push_value.result ≡ Err c.in_err-push_value.field-0.0 = search rules in
    let C = context_in c.args.c.now in
    let earlier = map node_of c.loop-value.nodes.items in
    let left = c.loop-value.rest.rest.items in
    let n : c.len.result ≡ length c.loop-value.nodes.items = search rules in
    let kept = ap (λ k. nodes_read C k earlier (node_texts (items_view left))) n ∙ c.loop-value.invariant.told in
    rw o
    (nodes_stop C c.args.values.items left c.next.new.self.rest.items c.len.result earlier c.in-Some.value c.in-Some.ensures.cases.0 kept
    c.in_err-push_value.field-0.0 c.in_err-push_value.ensures.told)

pub loop-value-preserved : goal.loop-value-preserved
loop-value-preserved c =
    let C = context_in c.args.c.now in
    let earlier = map node_of c.loop-value.nodes.items in
    let next = map node_of c.push_value.new.nodes.items in
    let left = c.loop-value.rest.rest.items in
    let rest = c.next.new.self.rest.items in
    let is = c.in-Some.ensures.cases.0 in
    let n : c.len.result ≡ length c.loop-value.nodes.items = search rules in
    let kept = ap (λ k. nodes_read C k earlier (node_texts (items_view left))) n ∙ c.loop-value.invariant.told in
    let more = nodes_more C c.args.values.items left rest c.len.result earlier c.in-Some.value is kept next c.in_ok-push_value.ensures.told in
    let count = c.in_ok-push_value.ensures.count in
    let counted : length c.push_value.new.nodes.items ≡ c.len.result + 1 = omega (arith, count, n) in
    let lengths : length left ≡ suc (length rest) = ap length is in
    record {
      told = ap (λ k. nodes_read C k next (node_texts (items_view rest))) counted ∙ more;
      of = c.in_ok-push_value.ensures.lawful c.loop-value.invariant.of;
      count = omega (arith, count, lengths, c.loop-value.invariant.count);
      many = omega (arith, lengths, c.in-Some.ensures.cases.1, c.loop-value.invariant.many);
      shape = others_shaped left rest c.in-Some.value is c.loop-value.invariant.shape;
      few = others_few left rest c.in-Some.value is c.loop-value.invariant.few;
      last = c.in_ok-push_value.ensures.last;
    }
