use Rattle.std.proofs.Common.{◌≡◌, ap, ◌∙◌}
use Rattle.std.proofs.lemmas.Result.{on_ok_weaker}
use Rattle.cert_values.specs.View.{view, items_view}
use Rattle.cert_json.proofs.ListLaws.{texts_on, nodes_on, kept_below}
use Rattle.cert_json.proofs.short_list.add_to_list.Goals as goal

pub returns : goal.returns
returns c =
    let d = view c.args.value in
    let old = c.args.list.now in
    let noted = c.note_item.new.list in
    let left = c.most_kept-most.new.list in
    on_ok_weaker c.push_below.result (λ more ds h.
    let texts = texts_on ds d old.all_texts noted.all_texts h.texts c.note_item.ensures.texts in
    let nodes = nodes_on ds d old.all_nodes noted.all_nodes h.nodes c.note_item.ensures.nodes in
    let same : items_view noted.items.items ≡ items_view old.items.items = ap (λ v. items_view v.items) c.note_item.ensures.items in
    record {
      texts = c.most_kept-most.ensures.texts ∙ texts;
      nodes = c.most_kept-most.ensures.nodes ∙ nodes;
      items = kept_below ds d noted.all_texts noted.all_nodes c.most_kept-most.result _ (items_view left.items.items)
          (items_view c.push_below.new.items.items) texts nodes c.most_kept-most.ensures.most (same ∙ h.items) c.most_kept-most.ensures.items more;
    })
    c.push_below.ensures
