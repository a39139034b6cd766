use Rattle.std.proofs.Common.{◌≡◌, ◌++◌, map, drop}
use Rattle.nf_rel.specs.View.{literal_in}
use Rattle.show_fact_text.specs.FactLines.{condition_line}
use Rattle.show_fact_text.specs.View.{side_names_in}
use Rattle.show_certificate_lines.proofs.telling.push_conditions.Given as goal

abbrev pub invariant-loop-literal : goal.invariant-loop-literal
invariant-loop-literal l =
    map (λ t. t.items) l.texts.items ++ map (condition_line l.before (side_names_in l.names)) (map literal_in (drop l.literal-index l.literals))
    ≡ map (λ t. t.items) l.fn.texts.items ++ map (condition_line l.before (side_names_in l.names)) (map literal_in l.literals)
