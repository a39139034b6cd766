use Rattle.std.proofs.Common.{take}
use Rattle.nf_terms.specs.Lists.{AreNormalItems}
use Rattle.nf_terms.proofs.seq.see_normal.Given as goal

abbrev pub invariant-loop-item : goal.invariant-loop-item
invariant-loop-item l = AreNormalItems (take l.item-index l.items)
