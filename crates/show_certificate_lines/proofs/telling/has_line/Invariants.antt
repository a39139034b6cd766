use Rattle.std.proofs.Common.{◌≡◌, map, drop}
use Rattle.std.specs.List.{list_any}
use Rattle.std.specs.Str.{bytes_eq}
use Rattle.show_certificate_lines.proofs.telling.has_line.Given as goal

abbrev pub invariant-loop-other : goal.invariant-loop-other
invariant-loop-other l =
    list_any (bytes_eq l.line) (map (λ t. t.items) (drop l.other-index l.lines)) ≡ list_any (bytes_eq l.line) (map (λ t. t.items) l.lines)
