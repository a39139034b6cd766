use Rattle.std.proofs.Common.{◌≡◌, drop}
use Rattle.cert_values.specs.View.{items_view}
use Rattle.cert_values.specs.Shape.{are_texts}
use Rattle.cert_values.proofs.shape.are_texts.Given as goal

abbrev pub invariant-loop-item : goal.invariant-loop-item
invariant-loop-item l = are_texts (items_view l.items.items) ≡ are_texts (items_view (drop l.item-index l.items.items))
