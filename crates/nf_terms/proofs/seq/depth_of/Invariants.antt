use Rattle.std.proofs.Common.{◌≡◌, ◌-◌, ◌^◌, ◌≤◌, min, max, drop}
use Rattle.nf_terms.specs.Lists.{depth_of_items}
use Rattle.nf_terms.proofs.seq.depth_of.Given as goal

abbrev pub invariant-loop-item : goal.invariant-loop-item
invariant-loop-item l = (l.deepest ≤ 2 ^ 32 - 1)
    × (min (max l.deepest (depth_of_items (drop l.item-index l.items))) (2 ^ 32 - 1) ≡ min (depth_of_items l.items) (2 ^ 32 - 1))
