use Rattle.std.proofs.Common.{◌≡◌, drop}
use Rattle.nf_terms.specs.Lists.{mentions_items}
use Rattle.nf_terms.proofs.seq.items_mention.Given as goal

abbrev pub invariant-loop-item : goal.invariant-loop-item
invariant-loop-item l = mentions_items l.p (drop l.item-index l.items) ≡ mentions_items l.p l.items
