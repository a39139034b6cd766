use Rattle.std.proofs.Common.{take}
use Rattle.search_waiting.specs.ItemOrder.{waits, AddsAll}
use Rattle.search_waiting.proofs.waiting.add_all.Given as goal

abbrev pub invariant-loop-item : goal.invariant-loop-item
invariant-loop-item l = AddsAll (waits l.initial.waiting) (waits l.waiting) (take l.item-index l.items)
