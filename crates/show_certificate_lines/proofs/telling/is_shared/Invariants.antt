use Rattle.std.proofs.Common.{◌≡◌, map, drop}
use Rattle.show_certificate_lines.specs.Cases.{is_shared}
use Rattle.show_certificate_lines.proofs.telling.is_shared.Given as goal

abbrev pub invariant-loop-lines : goal.invariant-loop-lines
invariant-loop-lines l =
    is_shared (map (λ lines. map (λ t. t.items) lines.items) (drop l.lines-index l.facts)) l.line
    ≡ is_shared (map (λ lines. map (λ t. t.items) lines.items) l.facts) l.line
