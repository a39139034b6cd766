use Rattle.std.proofs.Common.{◌≡◌, take}
use Rattle.std.specs.Prelude.{map}
use Rattle.fs_stores.specs.Values.{content_of}
use Rattle.fs_stores.specs.InputValues.{signature}
use Rattle.fs_stores.proofs.inputs.copy_items.Given as goal

abbrev pub invariant-loop-item : goal.invariant-loop-item
invariant-loop-item l = record {
  signatures : map signature l.out.items ≡ map signature (take l.item-index l.items);
  contents : map content_of (map (λ i. i.value) l.out.items) ≡ map content_of (map (λ i. i.value) (take l.item-index l.items));
}
