use Rattle.std.proofs.Common.{◌≡◌, map, drop}
use Rattle.sym_facts.specs.PositionSets.{with_symbols, symbols_of_equations}
use Rattle.sym_facts.specs.View.{position_in, set_in}
use Rattle.sym_facts.proofs.parts.add_equations.Given as goal

abbrev pub invariant-loop-position : goal.invariant-loop-position
invariant-loop-position l =
    with_symbols (set_in l.mentioned) (symbols_of_equations (map position_in (drop l.position-index l.positions)))
    ≡ with_symbols (set_in l.initial.mentioned) (symbols_of_equations (map position_in l.positions))
