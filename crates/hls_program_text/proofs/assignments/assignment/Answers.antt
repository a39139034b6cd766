use Rattle.std.proofs.Common.{◌<◌, length, option_map, refl, sym, ap, ◌∙◌, arith}
use Rattle.fs_model.specs.View.{named_expression}
use Rattle.fs_grammar.specs.Tokens.{line_at}
use Rattle.fs_grammar.specs.Grammar.{destination_assignment}
use Rattle.fs_phrase_text.proofs.PassedOn.{refused}
use Rattle.hls_program_parts.specs.Programs.{End, Do, join_blocks}
use Rattle.hls_program_parts.specs.ProgramGrammar.{program_reading, at_statement}
use Rattle.hls_program_text.specs.Fronts.{destination}
use Rattle.fs_phrase_text.proofs.Joined.{joined, if_joined}
use Rattle.hls_program_text.proofs.assignments.assignment.Goals as goal

pub returns-in_err-target-clause-goes : goal.returns-in_err-target-clause-goes
returns-in_err-target-clause-goes c =
    let n = line_at c.args.tokens.now in
    let x = c.in_ok-name.name in
    λ o b. refused c.from_residual-in_err-target.result c.in_err-target.field-0.0 _ c.from_residual-in_err-target.ensures.1 refl
    (joined _ x c.join.result
    (λ y. program_reading y.1.1.1.now
    (at_statement o (join_blocks b (Do n (destination_assignment (destination y.0 (option_map named_expression y.1.0)) (named_expression y.1.1.0)) End))))
    c.in_err-target.ensures (c.in_ok-name.ensures.goes o b)
    (joined c.join.result c.in_ok-name.index c.value.result
    (λ y. program_reading y.1.1.now
    (at_statement o (join_blocks b (Do n (destination_assignment (destination x (option_map named_expression y.0)) (named_expression y.1.0)) End))))
    c.join.ensures refl (c.value.ensures.goes o b n (destination x (option_map named_expression c.in_ok-name.index)))))

pub returns-clause-goes : goal.returns-clause-goes
returns-clause-goes c =
    let n = line_at c.args.tokens.now in
    let x = c.in_ok-name.name in
    λ o b. joined _ x c.join.result
    (λ y. program_reading y.1.1.1.now
    (at_statement o (join_blocks b (Do n (destination_assignment (destination y.0 (option_map named_expression y.1.0)) (named_expression y.1.1.0)) End))))
    c.in_ok-target.ensures (c.in_ok-name.ensures.goes o b)
    (joined c.join.result c.in_ok-name.index c.value.result
    (λ y. program_reading y.1.1.now
    (at_statement o (join_blocks b (Do n (destination_assignment (destination x (option_map named_expression y.0)) (named_expression y.1.0)) End))))
    c.join.ensures refl (c.value.ensures.goes o b n (destination x (option_map named_expression c.in_ok-name.index))))
    ∙ ap (λ a. program_reading c.in_ok-target.rest.now (at_statement o (join_blocks b (Do n a End)))) (sym c.assign.ensures)

pub returns-clause-shorter : goal.returns-clause-shorter
returns-clause-shorter c =
    if_joined _ c.in_ok-name.name c.join.result (λ y. length y.1.1.1.now < length c.args.tokens.now)
    (λ y. length y.1.1.now < length c.args.tokens.now) c.in_ok-target.ensures
    (if_joined c.join.result c.in_ok-name.index c.value.result (λ y. length y.1.1.now < length c.args.tokens.now) _ c.join.ensures c.value.ensures.shorter
    (λ y h. omega (arith, h, c.in_ok-name.ensures.shorter))) (λ y h. h)
