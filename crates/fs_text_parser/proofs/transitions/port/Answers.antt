use Rattle.std.proofs.Common.{ap, ◌∙◌}
use Rattle.fs_grammar.specs.PartEnds.{name_in}
use Rattle.fs_grammar.specs.Tokens.{◌>>=◌}
use Rattle.fs_grammar.specs.Grammar.{port, value, at_sum, reading}
use Rattle.fs_text_parser.proofs.Steps.{name_port}
use Rattle.fs_phrase_text.proofs.PassedOn.{stopped}
use Rattle.fs_phrase_text.proofs.Joined.{name_shorter}
use Rattle.fs_text_parser.proofs.transitions.port.Goals as goal

pub returns-in_err-name-clause-goes : goal.returns-in_err-name-clause-goes
returns-in_err-name-clause-goes c =
    let ts = c.args.tokens.now in
    λ o. stopped c.from_residual.result c.in_err-name.field-0.0 (name_in ts)
    (λ x. reading x.1 (at_sum (value o (port x.0)))) _
    c.from_residual.ensures.1 (name_port ts o) c.in_err-name.ensures

pub returns-clause-goes : goal.returns-clause-goes
returns-clause-goes c =
    λ o. name_port c.args.tokens.now o ∙ ap (λ q. q >>= λ x. reading x.1 (at_sum (value o (port x.0)))) c.in_ok-name.ensures

pub returns-clause-shorter : goal.returns-clause-shorter
returns-clause-shorter c = name_shorter c.args.tokens.now c.in_ok-name.rest.now c.in_ok-name.name c.in_ok-name.ensures
