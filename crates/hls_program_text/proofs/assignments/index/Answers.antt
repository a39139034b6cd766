use Rattle.std.proofs.Common.{arith}
use Rattle.fs_model.specs.View.{named_expression}
use Rattle.fs_grammar.specs.Grammar.{element}
use Rattle.fs_expression_text.specs.Inside.{at_sum, sum_alone}
use Rattle.hls_program_parts.specs.ProgramGrammar.{for_index, for_value, program_reading, inside}
use Rattle.fs_phrase_text.proofs.Joined.{joined, if_joined}
use Rattle.hls_program_text.proofs.assignments.index.Goals as goal

pub returns-clause-goes : goal.returns-clause-goes
returns-clause-goes c =
    let i = c.in_ok-index.index in
    λ o b n x. joined c.join.result i c.index_end.result
    (λ y. program_reading y.1.now (inside (for_value o b n (element x (named_expression y.0))) (at_sum sum_alone)))
    c.join.ensures (c.in_ok-index.ensures.goes (for_index o b n x)) (c.index_end.ensures.goes o b n x (named_expression i))

pub returns-clause-shorter : goal.returns-clause-shorter
returns-clause-shorter c =
    if_joined c.join.result c.in_ok-index.index c.index_end.result _ _ c.join.ensures c.index_end.ensures.shorter
    (λ y h. omega (arith, h, c.in_ok-index.ensures.shorter))
