use Rattle.std.proofs.Common.{[], ◌∷◌, ◌<◌, length, refl, ap, sym, ◌∙◌, arith}
use Rattle.fs_model.specs.View.{named_expression}
use Rattle.fs_grammar.specs.Grammar.{destination_assignment, with_assignments}
use Rattle.fs_text_parser.specs.Destinations.{destination_of}
use Rattle.fs_phrase_text.proofs.PassedOn.{refused}
use Rattle.fs_phrase_text.proofs.Joined.{joined, if_joined}
use Rattle.fs_text_parser.proofs.ReadParts.{after_assignment}
use Rattle.fs_text_parser.proofs.transitions.listed_assignment.Goals as goal

pub returns-in_err-destination-clause-goes : goal.returns-in_err-destination-clause-goes
returns-in_err-destination-clause-goes c =
    λ o e. refused c.from_residual.result c.in_err-destination.field-0.0 _ c.from_residual.ensures.1 refl (c.in_err-destination.ensures.goes o e)

pub returns-in_err-destination-2-clause-goes : goal.returns-in_err-destination-2-clause-goes
returns-in_err-destination-2-clause-goes c =
    let d = c.in_ok-destination.destination in
    λ o e. refused c.from_residual-in_err-destination-2.result c.in_err-destination-2.field-0.0 _ c.from_residual-in_err-destination-2.ensures.1
    (c.in_ok-destination.ensures.goes o e)
    (joined _ d c.listed_value.result
    (λ x. after_assignment (with_assignments o (destination_assignment (destination_of x.0) (named_expression x.1.0) ∷ [])) x.1.1)
    c.in_err-destination-2.ensures refl (c.listed_value.ensures.goes o (destination_of d)))

pub returns-clause-goes : goal.returns-clause-goes
returns-clause-goes c =
    let d = c.in_ok-destination.destination in
    λ o e. c.in_ok-destination.ensures.goes o e
    ∙ joined _ d c.listed_value.result
    (λ x. after_assignment (with_assignments o (destination_assignment (destination_of x.0) (named_expression x.1.0) ∷ [])) x.1.1)
    c.in_ok-destination-2.ensures refl (c.listed_value.ensures.goes o (destination_of d))
    ∙ ap (λ a. after_assignment (with_assignments o (a ∷ [])) c.in_ok-destination-2.next) (sym c.assign.ensures)

pub returns-clause-shorter : goal.returns-clause-shorter
returns-clause-shorter c =
    if_joined _ c.in_ok-destination.destination c.listed_value.result (λ x. length x.1.1.1.now < length c.args.tokens.now) _
    c.in_ok-destination-2.ensures c.listed_value.ensures.shorter
    (λ y h. omega (arith, h, c.in_ok-destination.ensures.shorter))
