use Rattle.std.proofs.Common.{◌≡◌, ◌+◌, ◌-◌, ◌^◌, ◌≤◌, min, drop}
use Rattle.nf_terms.specs.Lists.{size_of_items}
use Rattle.nf_terms.proofs.seq.size_of.Given as goal

abbrev pub invariant-loop-item : goal.invariant-loop-item
invariant-loop-item l = (l.total ≤ 2 ^ 64 - 1)
    × (min (l.total + size_of_items (drop l.item-index l.items)) (2 ^ 64 - 1) ≡ min (1 + size_of_items l.items) (2 ^ 64 - 1))
