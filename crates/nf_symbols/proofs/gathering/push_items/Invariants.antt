use Rattle.std.proofs.Common.{◌≡◌, ◌++◌, drop}
use Rattle.nf_terms.specs.Symbols.{symbols_of_items}
use Rattle.nf_symbols.proofs.gathering.push_items.Given as goal

abbrev pub invariant-loop-item : goal.invariant-loop-item
invariant-loop-item l = l.out.items ++ symbols_of_items (drop l.item-index l.items) ≡ l.initial.out.items ++ symbols_of_items l.items
