use Rattle.std.proofs.Common.{◌≡◌, drop}
use Rattle.nf_terms.specs.Symbols.{symbols_of_items}
use Rattle.sym_facts.specs.PositionSets.{with_symbols}
use Rattle.sym_facts.specs.View.{set_in}
use Rattle.sym_facts.proofs.mentioned.add_items.Given as goal

abbrev pub invariant-loop-item : goal.invariant-loop-item
invariant-loop-item l = with_symbols (set_in l.mentioned) (symbols_of_items (drop l.item-index l.items))
    ≡ with_symbols (set_in l.initial.mentioned) (symbols_of_items l.items)
