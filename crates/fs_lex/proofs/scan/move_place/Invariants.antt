use Rattle.std.proofs.Common.{◌≡◌, ◌<◌, ◌≤◌, ◌+◌, drop}
use Rattle.fs_lex.specs.Scan.{place_after_bytes}
use Rattle.fs_lex.proofs.scan.move_place.Given as goal

abbrev pub invariant-loop-b : goal.invariant-loop-b
invariant-loop-b l = (place_after_bytes l.place (drop l.b-index l.bytes) ≡ place_after_bytes l.fn.from l.bytes) × (l.place.line ≤ l.fn.from.line + l.b-index)
    × (l.place.column ≤ l.fn.from.column + l.b-index) × (0 < l.place.column)
