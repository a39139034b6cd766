use Rattle.std.proofs.Common.{◌≡◌, drop}
use Rattle.fs_stores.specs.InputValues.{value_named}
use Rattle.fs_stores.proofs.inputs.Inputs.value_named.Given as goal

abbrev pub invariant-loop-item : goal.invariant-loop-item
invariant-loop-item l = value_named (drop l.item-index l.item-items) l.name ≡ value_named l.self.items.items l.name
