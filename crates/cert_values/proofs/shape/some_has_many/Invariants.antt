use Rattle.std.proofs.Common.{◌≡◌, drop}
use Rattle.cert_values.specs.View.{items_view}
use Rattle.cert_values.specs.Shape.{some_has_many}
use Rattle.cert_values.proofs.shape.some_has_many.Given as goal

abbrev pub invariant-loop-item : goal.invariant-loop-item
invariant-loop-item l = some_has_many (items_view l.items.items) ≡ some_has_many (items_view (drop l.item-index l.items.items))
