use Rattle.std.proofs.Common.{◌≡◌, ◌≤◌, ◌+◌, ◌*◌, length}
use Rattle.hls_program_parts.specs.View.{block_of}
use Rattle.hls_program_parts.specs.ProgramGrammar.{Open, depth_of, program_reading, at_block, at_statement}
use Rattle.hls_program_text.proofs.blocks.+blocks.Given as goal

abbrev pub decreases-block : goal.decreases-block
decreases-block l = 4 * length l.tokens.now

abbrev pub decreases-statements : goal.decreases-statements
decreases-statements l = 4 * length l.tokens.now + 3

abbrev pub decreases-statement : goal.decreases-statement
decreases-statement l = 4 * length l.tokens.now + 2

abbrev pub decreases-choice : goal.decreases-choice
decreases-choice l = 4 * length l.tokens.now + 1

abbrev pub decreases-both_blocks : goal.decreases-both_blocks
decreases-both_blocks l = 4 * length l.tokens.now + 1

abbrev pub decreases-repetition : goal.decreases-repetition
decreases-repetition l = 4 * length l.tokens.now + 1

abbrev pub decreases-otherwise : goal.decreases-otherwise
decreases-otherwise l = 4 * length l.tokens.now

abbrev pub invariant-statements-each : goal.invariant-statements-each
invariant-statements-each l =
    ((o : Open) → depth_of o ≡ l.depth → program_reading l.tokens (at_block o) ≡ program_reading l.rest (at_statement o (block_of l.all.items)))
    × (length l.rest ≤ length l.tokens)

abbrev pub decreases-statements-each : goal.decreases-statements-each
decreases-statements-each l = length l.rest
