use Rattle.std.proofs.Common.{◌≡◌, ◌+◌, ◌*◌, ◌≤◌, length}
use Rattle.hls_program_parts.specs.Compiled.{count}
use Rattle.hls_program_parts.specs.View.{block_of_statement, block_of}
use Rattle.hls_program_parts.proofs.Fits.{fits}
use Rattle.hls_program_parts.proofs.well_formed.+blocks.Given as goal

abbrev pub decreases-is_block : goal.decreases-is_block
decreases-is_block l = 2 * count (block_of l.statements.now) + 1

abbrev pub decreases-is_statement : goal.decreases-is_statement
decreases-is_statement l = 2 * count (block_of_statement l.statement.now)

abbrev pub invariant-is_block-each : goal.invariant-is_block-each
invariant-is_block-each l = (fits l.levels (block_of l.rest) ≡ fits l.levels (block_of l.statements))
    × (count (block_of l.rest) ≤ count (block_of l.statements))

abbrev pub decreases-is_block-each : goal.decreases-is_block-each
decreases-is_block-each l = length l.rest
