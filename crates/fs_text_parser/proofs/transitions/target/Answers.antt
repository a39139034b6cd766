use Rattle.std.proofs.Common.{[], map, ap, ◌∙◌, arith}
use Rattle.fs_model.specs.View.{named_assignment}
use Rattle.fs_grammar.specs.PartEnds.{name_in}
use Rattle.fs_grammar.specs.Tokens.{◌>>=◌}
use Rattle.fs_grammar.specs.Grammar.{reading, after_target, at_transition, close_transition}
use Rattle.fs_text_parser.proofs.Steps.{name_target}
use Rattle.fs_phrase_text.proofs.PassedOn.{stopped}
use Rattle.fs_phrase_text.proofs.Joined.{joined, if_joined, name_shorter}
use Rattle.fs_text_parser.proofs.transitions.target.Goals as goal

pub returns-in_err-name-clause-goes : goal.returns-in_err-name-clause-goes
returns-in_err-name-clause-goes c =
    let ts = c.args.tokens.now in
    λ d n g e. stopped c.from_residual.result c.in_err-name.field-0.0 (name_in ts)
    (λ x. reading x.1 (after_target (record { state = d; line = n; guard = g; target = x.0; assignments = [] }))) _
    c.from_residual.ensures.1 (name_target ts d n g) c.in_err-name.ensures

pub returns-clause-goes : goal.returns-clause-goes
returns-clause-goes c =
    let ts = c.args.tokens.now in
    let name = c.in_ok-name.name in
    λ d n g e. joined c.join.result name c.effects.result
    (λ x. reading x.1.1.now (at_transition (close_transition
    (record { state = d; line = n; guard = g; target = x.0; assignments = map named_assignment x.1.0.items })))) c.join.ensures
    (name_target ts d n g
    ∙ ap (λ q. q >>= λ x. reading x.1 (after_target (record { state = d; line = n; guard = g; target = x.0; assignments = [] }))) c.in_ok-name.ensures)
    (c.effects.ensures.goes (record { state = d; line = n; guard = g; target = name; assignments = [] }) e)

pub returns-clause-shorter : goal.returns-clause-shorter
returns-clause-shorter c =
    if_joined c.join.result c.in_ok-name.name c.effects.result _ _ c.join.ensures c.effects.ensures.shorter
    (λ y h. omega (arith, h, name_shorter c.args.tokens.now c.in_ok-name.rest.now c.in_ok-name.name c.in_ok-name.ensures))
