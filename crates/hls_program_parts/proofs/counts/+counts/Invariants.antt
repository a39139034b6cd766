use Rattle.std.proofs.Common.{◌≡◌, ◌+◌, ◌*◌, ◌≤◌, length}
use Rattle.std.specs.Prelude.{min}
use Rattle.hls_program_parts.specs.Compiled.{count}
use Rattle.hls_program_parts.specs.View.{block_of_statement, block_of}
use Rattle.hls_program_parts.proofs.counts.+counts.Given as goal

abbrev pub decreases-count : goal.decreases-count
decreases-count l = 2 * count (block_of l.statements.now) + 1

abbrev pub decreases-size : goal.decreases-size
decreases-size l = 2 * count (block_of_statement l.statement.now)

abbrev pub invariant-count-each : goal.invariant-count-each
invariant-count-each l = (min (l.total + count (block_of l.rest)) 4294967295 ≡ min (count (block_of l.statements)) 4294967295)
    × (count (block_of l.rest) ≤ count (block_of l.statements)) × (l.total ≤ 4294967295)

abbrev pub decreases-count-each : goal.decreases-count-each
decreases-count-each l = length l.rest
