use Rattle.std.proofs.Common.{◌≡◌, ◌<◌, ◌≤◌, ◌+◌, ◌++◌, length}
use Rattle.fs_lex.specs.Scan.{scan, tokens_of}
use Rattle.fs_lex.proofs.scan.tokens.Given as goal

abbrev pub invariant-each : goal.invariant-each
invariant-each l =
    (l.out.items ++ scan l.rest 0 l.place l.operators ≡ tokens_of l.bytes) × (l.place.line + length l.rest ≤ length l.bytes + 1)
    × (l.place.column + length l.rest ≤ length l.bytes + 1)
    × (0 < l.place.column) × (l.operators + length l.rest ≤ length l.bytes)

abbrev pub decreases-each : goal.decreases-each
decreases-each l = length l.rest
