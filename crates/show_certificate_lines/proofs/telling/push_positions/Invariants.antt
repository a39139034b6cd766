use Rattle.std.proofs.Common.{◌≡◌, ◌++◌, map, drop}
use Rattle.sym_facts.specs.View.{position_in}
use Rattle.show_fact_text.specs.FactLines.{position_line}
use Rattle.show_fact_text.specs.View.{side_names_in}
use Rattle.show_certificate_lines.proofs.telling.push_positions.Given as goal

abbrev pub invariant-loop-position : goal.invariant-loop-position
invariant-loop-position l =
    map (λ t. t.items) l.texts.items ++ map (position_line l.before (side_names_in l.names)) (map position_in (drop l.position-index l.positions))
    ≡ map (λ t. t.items) l.fn.texts.items ++ map (position_line l.before (side_names_in l.names)) (map position_in l.positions)
