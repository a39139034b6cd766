use Rattle.std.proofs.Common.{rules}
use Rattle.fs_grammar.specs.PartEnds.{EndsName}
use Rattle.fs_grammar.specs.Grammar.{reading, scalar, at_sum, value}
use Rattle.fs_phrase_text.proofs.Joined.{joined, if_joined}
use Rattle.fs_text_parser.specs.Destinations.{destination_of}
use Rattle.fs_text_parser.specs.declared.transitions.Destination.TheVariants.{Scalar}
use Rattle.fs_text_parser.proofs.Steps.{scalar_ends}
use Rattle.fs_text_parser.proofs.transitions.destination_after_name.Goals as goal

pub returns-in_default-clause-goes : goal.returns-in_default-clause-goes
returns-in_default-clause-goes c =
    let ends : EndsName c.args.tokens.now = search rules in
    λ o. joined c.join.result (Scalar c.args.name) c.equals.result (λ x. reading x.1.now (at_sum (value o (destination_of x.0)))) c.join.ensures
    (scalar_ends c.args.tokens.now o c.args.name ends) (c.equals.ensures.goes o (scalar c.args.name))

pub returns-in_default-clause-shorter : goal.returns-in_default-clause-shorter
returns-in_default-clause-shorter c =
    if_joined c.join.result (Scalar c.args.name) c.equals.result _ _ c.join.ensures c.equals.ensures.shorter (λ y h. h)
