use Rattle.std.proofs.Common.{option_map, ap, ◌∙◌, arith}
use Rattle.fs_model.specs.View.{named_expression}
use Rattle.fs_grammar.specs.PartEnds.{name_in}
use Rattle.fs_grammar.specs.Tokens.{line_at, ◌>>=◌}
use Rattle.fs_expression_text.specs.Inside.{at_sum, sum_alone}
use Rattle.fs_phrase_text.proofs.PassedOn.{stopped}
use Rattle.hls_program_parts.specs.ProgramGrammar.{for_value, program_reading, after_name, inside}
use Rattle.hls_program_text.specs.Fronts.{destination}
use Rattle.hls_program_text.proofs.Readings.{name_read}
use Rattle.fs_phrase_text.proofs.Joined.{joined, if_joined, name_shorter}
use Rattle.hls_program_text.proofs.assignments.before_value.Goals as goal

pub returns-in_err-name-clause-goes : goal.returns-in_err-name-clause-goes
returns-in_err-name-clause-goes c =
    let ts = c.args.tokens.now in
    λ o b. stopped c.from_residual.result c.in_err-name.field-0.0 (name_in ts) (λ x. program_reading x.1 (after_name o b (line_at ts) x.0)) _
    c.from_residual.ensures.1 (name_read ts o b c.requires) c.in_err-name.ensures

pub returns-clause-goes : goal.returns-clause-goes
returns-clause-goes c =
    let ts = c.args.tokens.now in
    let name = c.in_ok-name.name in
    λ o b. joined c.join.result name c.optional_index.result
    (λ x. program_reading x.1.1.now (inside (for_value o b (line_at ts) (destination x.0 (option_map named_expression x.1.0))) (at_sum sum_alone)))
    c.join.ensures
    (name_read ts o b c.requires ∙ ap (λ q. q >>= λ x. program_reading x.1 (after_name o b (line_at ts) x.0)) c.in_ok-name.ensures)
    (c.optional_index.ensures.goes o b (line_at ts) name)

pub returns-clause-shorter : goal.returns-clause-shorter
returns-clause-shorter c =
    if_joined c.join.result c.in_ok-name.name c.optional_index.result _ _ c.join.ensures c.optional_index.ensures.shorter
    (λ y h. omega (arith, h, name_shorter c.args.tokens.now c.in_ok-name.rest.now c.in_ok-name.name c.in_ok-name.ensures))
