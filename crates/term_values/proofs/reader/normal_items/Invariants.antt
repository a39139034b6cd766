use Rattle.std.proofs.Common.{◌≡◌, ◌++◌, map, drop}
use Rattle.term_text.specs.View as text
use Rattle.term_values.specs.TermValues.{within_limit, polynomial_value}
use Rattle.term_values.specs.TermFaults.{are_normal}
use Rattle.term_values.proofs.reader.normal_items.Given as goal

abbrev pub invariant-loop-item : goal.invariant-loop-item
invariant-loop-item g l =
    (l.items.items ++ map (polynomial_value (within_limit (g.N.Names.find l.names))) (map text.written_polynomial_in (drop l.item-index l.written))
    ≡ map (polynomial_value (within_limit (g.N.Names.find l.names))) (map text.written_polynomial_in l.written))
    × (are_normal (map (polynomial_value (within_limit (g.N.Names.find l.names))) (map text.written_polynomial_in l.written))
    ≡ are_normal (map (polynomial_value (within_limit (g.N.Names.find l.names))) (map text.written_polynomial_in (drop l.item-index l.written))))
