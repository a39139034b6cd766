use Rattle.std.proofs.Common.{◌≡◌, ◌++◌, map, drop}
use Rattle.std.specs.List.{flat_map}
use Rattle.show_certificate_lines.specs.Cases.{unless_shared}
use Rattle.show_certificate_lines.proofs.telling.write_telling_among.Given as goal

abbrev pub invariant-loop-line : goal.invariant-loop-line
invariant-loop-line l =
    l.out.items ++ flat_map (unless_shared (map (λ lines. map (λ t. t.items) lines.items) l.facts)) (map (λ t. t.items) (drop l.line-index l.lines))
    ≡ l.fn.out.items ++ flat_map (unless_shared (map (λ lines. map (λ t. t.items) lines.items) l.facts)) (map (λ t. t.items) l.lines)
