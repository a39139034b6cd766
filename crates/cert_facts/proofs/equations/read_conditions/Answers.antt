use Rattle.std.proofs.Common.{rules, ◌≡◌, ◌+◌, [], ◌∷◌, ◌++◌, map, drop, length, Err, ap, ◌∙◌}
use Rattle.std.proofs.lemmas.List.{map_push, length-append}
use Rattle.fs_model.proofs.Quantifiers.{list_all_push, each_append}
use Rattle.cert_values.specs.View.{items_view}
use Rattle.nf_rel.specs.View.{literal_in}
use Rattle.sym_facts.specs.Facts.{may_be_kept}
use Rattle.cert_terms.specs.View.{find_of}
use Rattle.cert_terms.specs.Within.{LiteralWithin}
use Rattle.cert_facts.specs.JsonParts.{texts_of}
use Rattle.cert_facts.specs.FactReading.{conditions_read}
use Rattle.cert_facts.specs.View.{terms_in}
use Rattle.cert_facts.proofs.NodeParts.{conditions_stop, conditions_more}
use Rattle.cert_facts.proofs.equations.read_conditions.Goals as goal

pub returns-in_err-read_condition-clause-told : goal.returns-in_err-read_condition-clause-told
returns-in_err-read_condition-clause-told c =
    let o : c.from_residual.result ≡ Err c.in_err-read_condition.field-0.0 = search rules in
    rw o
    (conditions_stop (terms_in c.args.places.now) c.args.node _ (map literal_in c.loop-item.out.items) c.args.items.now c.loop-item.item-index
    c.item-item.result c.loop-item-test.true c.item-item.is c.loop-item.invariant.rest _ (c.as_bytes.ensures.value ∙ c.text_of.ensures)
    c.in_err-read_condition.field-0.0 c.in_err-read_condition.ensures.told)

pub loop-item-preserved : goal.loop-item-preserved
loop-item-preserved c =
    let terms = terms_in c.args.places.now in
    let items = c.args.items.now in
    let old = c.loop-item.out.items in
    let literal = c.in_ok-read_condition.field-0 in
    let more : map literal_in c.push.new.self.items ≡ map literal_in old ++ literal_in literal ∷ [] =
    ap (map literal_in) c.in_ok-push.ensures.items ∙ map_push literal_in old literal in
    record {
      rest = ap (λ ls. conditions_read terms c.args.node ls (texts_of (items_view (drop (c.loop-item.item-index + 1) items)))) more
          ∙ conditions_more terms c.args.node _ (map literal_in old) items c.loop-item.item-index c.item-item.result c.loop-item-test.true
          c.item-item.is c.loop-item.invariant.rest _ (c.as_bytes.ensures.value ∙ c.text_of.ensures) (literal_in literal)
          c.in_ok-read_condition.ensures.told;
      count = ap length c.in_ok-push.ensures.items ∙ length-append old (literal ∷ []) ∙ ap (λ k. k + 1) c.loop-item.invariant.count;
      kept = rw more (list_all_push may_be_kept (map literal_in old) (literal_in literal) c.loop-item.invariant.kept c.in_ok-read_condition.ensures.kept);
      within = rw more
          (each_append (LiteralWithin (find_of c.args.places.now)) (map literal_in old) (literal_in literal ∷ []) c.loop-item.invariant.within
          (c.in_ok-read_condition.ensures.within, tt));
    }
