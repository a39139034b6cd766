use Rattle.std.proofs.Common.{◌<◌, length, ap, ◌∙◌, arith}
use Rattle.std.proofs.lemmas.Result.{IfOk-weaker}
use Rattle.fs_grammar.specs.PartEnds.{name_in}
use Rattle.fs_grammar.specs.Tokens.{◌>>=◌}
use Rattle.fs_grammar.specs.Grammar.{reading, after_assignment_name}
use Rattle.fs_text_parser.proofs.Steps.{name_assignment}
use Rattle.fs_phrase_text.proofs.PassedOn.{stopped, goes_after}
use Rattle.fs_phrase_text.proofs.Joined.{name_shorter}
use Rattle.fs_text_parser.proofs.transitions.assigned_place.Goals as goal

pub returns-in_err-name-clause-goes : goal.returns-in_err-name-clause-goes
returns-in_err-name-clause-goes c =
    let ts = c.args.tokens.now in
    λ o. stopped c.from_residual.result c.in_err-name.field-0.0 (name_in ts)
    (λ x. reading x.1 (after_assignment_name o x.0)) _
    c.from_residual.ensures.1 (name_assignment ts o c.requires) c.in_err-name.ensures

pub returns-clause-goes : goal.returns-clause-goes
returns-clause-goes c =
    let ts = c.args.tokens.now in
    λ o. goes_after c.destination_after_name.result _ (name_assignment ts o c.requires
    ∙ ap (λ q. q >>= λ x. reading x.1 (after_assignment_name o x.0)) c.in_ok-name.ensures) (c.destination_after_name.ensures.goes o)

pub returns-clause-shorter : goal.returns-clause-shorter
returns-clause-shorter c =
    let ts = c.args.tokens.now in
    let rest = c.in_ok-name.rest.now in
    IfOk-weaker c.destination_after_name.result (λ x. length x.1.now < length rest) (λ x. length x.1.now < length ts)
    (λ x h. omega (arith, h, name_shorter ts rest c.in_ok-name.name c.in_ok-name.ensures)) c.destination_after_name.ensures.shorter
