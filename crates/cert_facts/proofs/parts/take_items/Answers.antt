use Rattle.std.proofs.Common.{◌≡◌, option_map, option_and_then, sym, ap, ◌∙◌}
use Rattle.serde_json.specs.Find.{get, as_array}
use Rattle.cert_values.specs.View.{view}
use Rattle.cert_values.specs.declared.value.Value.{Object}
use Rattle.cert_values.proofs.Views.{view-Object, view-lookup}
use Rattle.cert_facts.specs.JsonParts.{items_or_none}
use Rattle.cert_facts.proofs.parts.take_items.Goals as goal

pub returns-in-Object : goal.returns-in-Object
returns-in-Object c =
    let is : c.args.value.now ≡ Object c.in-Object.members = sym c.replace.ensures.value ∙ c.in-Object.is in
    c.items_of.ensures
    ∙ ap (λ o. items_or_none (option_and_then as_array o))
    (ap (option_map view) c.remove.ensures.value ∙ view-lookup c.args.key.now c.in-Object.members.entries
    ∙ ap (get c.args.key.now) (sym (ap view is ∙ view-Object c.in-Object.members)))
