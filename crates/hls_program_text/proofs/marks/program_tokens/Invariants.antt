use Rattle.std.proofs.Common.{◌≡◌, ◌≤◌, ◌+◌, ◌++◌, length}
use Rattle.std.specs.Prelude.{vec_len}
use Rattle.std.specs.Vec.Iter.{into_iter_len}
use Rattle.hls_program_parts.specs.Marks.{mark_tokens, program_tokens}
use Rattle.hls_program_text.proofs.marks.program_tokens.Given as goal

abbrev pub invariant-each : goal.invariant-each
invariant-each l = record {
  many : into_iter_len l.rest ≡ length l.rest.rest.items;
  few : l.operators + into_iter_len l.rest ≤ vec_len l.fn.tokens;
  made : l.out.items ++ mark_tokens l.unit l.operators l.rest.rest.items ≡ program_tokens l.fn.tokens.items;
}

abbrev pub decreases-each : goal.decreases-each
decreases-each l = into_iter_len l.rest
