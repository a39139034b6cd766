use Rattle.std.proofs.Common.{◌≡◌, ◌+◌, ◌++◌, map, drop}
use Rattle.show_certificate_lines.specs.Demands.{numbered_lines}
use Rattle.show_certificate_lines.proofs.obligations.numbered_lines.Given as goal

abbrev pub invariant-loop-place : goal.invariant-loop-place
invariant-loop-place l =
    l.lines.items ++ numbered_lines (l.place + 1) (map (λ t. t.items) (drop l.place l.texts)) ≡ numbered_lines 1 (map (λ t. t.items) l.texts)
