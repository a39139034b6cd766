use Rattle.std.proofs.Common.{◌<◌, length, map, ◌∙◌, arith}
use Rattle.fs_model.specs.View.{source_transition_of}
use Rattle.fs_grammar.specs.Grammar.{reading, at_transition, with_transitions}
use Rattle.fs_phrase_text.proofs.PassedOn.{refused}
use Rattle.fs_grammar.proofs.Appending.{transitions_twice}
use Rattle.fs_text_parser.proofs.ReadParts.{not_pushed, if_pushed, parses_on_with_pushed}
use Rattle.fs_text_parser.proofs.transitions.transitions.Goals as goal

pub returns-in_err-rest-clause-goes : goal.returns-in_err-rest-clause-goes
returns-in_err-rest-clause-goes c =
    let l = c.each in
    λ d e. refused c.from_residual.result c.in_err-rest.field-0.0 _ c.from_residual.ensures.1 (l.invariant.0 d e)
    (not_pushed c.transition.result c.in_err-rest.field-0.0 _ _ _ _ c.in_err-rest.ensures
    (c.transition.ensures.goes (with_transitions d (map source_transition_of l.all.items)) e))

pub each-smaller : goal.each-smaller
each-smaller c =
    if_pushed c.transition.result c.in_ok-rest.rest _ _ (λ y. length y.now < length c.each.rest.now) c.in_ok-rest.ensures c.transition.ensures.shorter

pub each-preserved : goal.each-preserved
each-preserved c =
    let l = c.each in
    let less = if_pushed c.transition.result c.in_ok-rest.rest _ _ (λ y. length y.now < length l.rest.now)
    c.in_ok-rest.ensures c.transition.ensures.shorter in (
      λ d e.
          l.invariant.0 d e
          ∙ parses_on_with_pushed source_transition_of with_transitions (λ s y. reading y.now (at_transition s)) transitions_twice c.transition.result
          c.in_ok-rest.rest d _ _ _ c.in_ok-rest.ensures
          (c.transition.ensures.goes (with_transitions d (map source_transition_of l.all.items)) e),
      omega (arith, less, l.invariant.1),
    )
