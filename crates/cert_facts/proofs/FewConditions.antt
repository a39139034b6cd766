-- Where a list has no more than a limit, the items that are read are no more.
use Rattle.std.proofs.Common.{◌≡◌, ℕ, ◌≤◌, false, Option, Some, None, ap, List, length, arith}
use Rattle.std.specs.Prelude.{option_and_then, codes}
use Rattle.std.proofs.lemmas.Bool.{ltb-false}
use Rattle.serde_json.specs.Data.{Data, Items}
use Rattle.serde_json.specs.Events.{items_len}
use Rattle.cert_values.specs.View.{items_view}
use Rattle.cert_values.specs.declared.value.Value.{Value}
use Rattle.cert_values.proofs.Views.{items_len-items_view}
use Rattle.serde_json.specs.Find.{get, as_array}
use Rattle.cert_values.specs.Shape.{has_more, has_many_conditions}
use Rattle.cert_facts.specs.JsonParts.{items_or_none}

pub at_most : (limit : ℕ) (o : Option Items) → has_more limit o ≡ false → items_len (items_or_none o) ≤ limit
at_most limit None h = omega arith
at_most limit (Some ds) h = ltb-false limit (items_len ds) h

pub conds_few : (d : Data) (vs : List Value) → items_view vs ≡ items_or_none (option_and_then as_array (get (codes "conds") d)) → has_many_conditions d ≡ false
    → length vs ≤ 64
conds_few d vs e h =
    let conds : Option Items = option_and_then as_array (get (codes "conds") d) in
    let few : items_len (items_or_none conds) ≤ 64 = at_most 64 conds h in
    let many : items_len (items_view vs) ≡ items_len (items_or_none conds) = ap items_len e in
    omega (arith, few, many, items_len-items_view vs)
