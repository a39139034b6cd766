use Rattle.std.proofs.Common.{◌<◌, length, refl}
use Rattle.fs_model.specs.View.{named_expression}
use Rattle.fs_grammar.specs.Grammar.{reading, at_sum, element, value}
use Rattle.fs_phrase_text.proofs.PassedOn.{refused}
use Rattle.fs_phrase_text.proofs.Joined.{joined, if_joined}
use Rattle.fs_text_parser.proofs.transitions.element.Goals as goal

pub returns-in_err-name-clause-goes : goal.returns-in_err-name-clause-goes
returns-in_err-name-clause-goes c =
    λ o. refused c.from_residual.result c.in_err-name.field-0.0 _ c.from_residual.ensures.1 refl
    (joined _ c.args.name c.index.result (λ x. reading x.1.1.now (at_sum (value o (element x.0 (named_expression x.1.0))))) c.in_err-name.ensures refl
    (c.index.ensures.goes o c.args.name))

pub returns-clause-goes : goal.returns-clause-goes
returns-clause-goes c =
    λ o. joined _ c.args.name c.index.result (λ x. reading x.1.1.now (at_sum (value o (element x.0 (named_expression x.1.0))))) c.in_ok-name.ensures refl
    (c.index.ensures.goes o c.args.name)

pub returns-clause-shorter : goal.returns-clause-shorter
returns-clause-shorter c =
    if_joined _ c.args.name c.index.result (λ x. length x.1.1.now < length c.args.tokens.now) _ c.in_ok-name.ensures c.index.ensures.shorter (λ y h. h)
