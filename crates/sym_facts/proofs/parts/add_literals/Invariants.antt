use Rattle.std.proofs.Common.{◌≡◌, map, drop}
use Rattle.nf_rel.specs.View.{literal_in}
use Rattle.sym_facts.specs.PositionSets.{with_symbols, symbols_of_literals}
use Rattle.sym_facts.specs.View.{set_in}
use Rattle.sym_facts.proofs.parts.add_literals.Given as goal

abbrev pub invariant-loop-literal : goal.invariant-loop-literal
invariant-loop-literal l =
    with_symbols (set_in l.mentioned) (symbols_of_literals (map literal_in (drop l.literal-index l.literals)))
    ≡ with_symbols (set_in l.initial.mentioned) (symbols_of_literals (map literal_in l.literals))
