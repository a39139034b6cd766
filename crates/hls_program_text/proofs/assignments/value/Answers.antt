use Rattle.std.proofs.Common.{arith}
use Rattle.fs_model.specs.View.{named_expression}
use Rattle.fs_grammar.specs.Grammar.{destination_assignment}
use Rattle.hls_program_parts.specs.Programs.{End, Do, join_blocks}
use Rattle.hls_program_parts.specs.ProgramGrammar.{for_value, program_reading, at_statement}
use Rattle.fs_phrase_text.proofs.Joined.{joined, if_joined}
use Rattle.hls_program_text.proofs.assignments.value.Goals as goal

pub returns-clause-goes : goal.returns-clause-goes
returns-clause-goes c =
    let v = c.in_ok-value.value in
    λ o b n d. joined c.join.result v c.semicolon.result
    (λ y. program_reading y.1.now (at_statement o (join_blocks b (Do n (destination_assignment d (named_expression y.0)) End))))
    c.join.ensures (c.in_ok-value.ensures.goes (for_value o b n d)) (c.semicolon.ensures.goes o b n d (named_expression v))

pub returns-clause-shorter : goal.returns-clause-shorter
returns-clause-shorter c =
    if_joined c.join.result c.in_ok-value.value c.semicolon.result _ _ c.join.ensures c.semicolon.ensures.shorter
    (λ y h. omega (arith, h, c.in_ok-value.ensures.shorter))
