use Rattle.std.proofs.Common.{◌≡◌, ◌++◌, drop}
use Rattle.nf_terms.proofs.seq.copy_items.Given as goal

abbrev pub invariant-loop-item : goal.invariant-loop-item
invariant-loop-item l = l.out.items ++ drop l.item-index l.items ≡ l.items
