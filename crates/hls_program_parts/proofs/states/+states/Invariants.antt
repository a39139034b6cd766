use Rattle.std.proofs.Common.{◌≡◌, ◌+◌, ◌*◌, ◌++◌, ◌≤◌, length, map}
use Rattle.fs_model.specs.View.{source_state_of}
use Rattle.hls_program_parts.specs.Compiled.{count, states_of, state_name, numbered_states}
use Rattle.hls_program_parts.specs.View.{block_of_statement, block_of}
use Rattle.hls_program_parts.proofs.states.+states.Given as goal

abbrev pub decreases-add_block : goal.decreases-add_block
decreases-add_block l = 2 * count (block_of l.statements.now) + 1

abbrev pub decreases-add_statement : goal.decreases-add_statement
decreases-add_statement l = 2 * count (block_of_statement l.statement.now)

abbrev pub invariant-add_block-each : goal.invariant-add_block-each
invariant-add_block-each l =
    (count (block_of l.rest) ≤ count (block_of l.statements))
    × (l.number + count (block_of l.rest) ≡ l.initial.number + count (block_of l.statements))
    × (map source_state_of l.out.items ++ numbered_states l.number (states_of state_name (block_of l.rest) l.number l.follow)
    ≡ map source_state_of l.initial.out.items ++ numbered_states l.initial.number (states_of state_name (block_of l.statements) l.initial.number l.follow))

abbrev pub decreases-add_block-each : goal.decreases-add_block-each
decreases-add_block-each l = length l.rest
