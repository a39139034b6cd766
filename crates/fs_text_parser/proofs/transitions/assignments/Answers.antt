use Rattle.std.proofs.Common.{◌<◌, Bool, Bor, List, length, map, ap, ◌∙◌, arith}
use Rattle.fs_model.specs.View.{named_assignment}
use Rattle.fs_grammar.specs.declared.token.Token.{Token}
use Rattle.fs_grammar.specs.Grammar.{with_assignments}
use Rattle.fs_phrase_text.proofs.PassedOn.{refused}
use Rattle.fs_grammar.proofs.Appending.{assignments_twice}
use Rattle.fs_text_parser.proofs.ReadParts.{not_pushed, if_pushed, after_assignment, parses_on_with_pushed}
use Rattle.fs_text_parser.proofs.transitions.assignments.Goals as goal

pub returns-in_err-more-clause-goes : goal.returns-in_err-more-clause-goes
returns-in_err-more-clause-goes c =
    let l = c.loop-all in
    λ o e. refused c.from_residual.result c.in_err-more.field-0.0 _ c.from_residual.ensures.1 (l.invariant.0 o e)
    (not_pushed c.listed_assignment.result c.in_err-more.field-0.0 _ _ _ _ c.in_err-more.ensures
    (c.listed_assignment.ensures.goes (with_assignments o (map named_assignment l.all.items)) e))

pub returns-then-not-more-clause-goes : goal.returns-then-not-more-clause-goes
returns-then-not-more-clause-goes c =
    let l = c.loop-all in
    let next : Bool × Bor (List Token) = (c.in_ok-more.more, c.in_ok-more.after) in
    λ o e. l.invariant.0 o e
    ∙ parses_on_with_pushed named_assignment with_assignments after_assignment assignments_twice c.listed_assignment.result next o _ _ _ c.in_ok-more.ensures
    (c.listed_assignment.ensures.goes (with_assignments o (map named_assignment l.all.items)) e)
    ∙ ap (λ more. after_assignment (with_assignments o (map named_assignment c.push_read.new.parts.items)) (more, c.in_ok-more.after)) c.if-not-more.true

pub returns-then-not-more-clause-shorter : goal.returns-then-not-more-clause-shorter
returns-then-not-more-clause-shorter c =
    let l = c.loop-all in
    let less = if_pushed c.listed_assignment.result (c.in_ok-more.more, c.in_ok-more.after) _ _ (λ y. length y.1.now < length l.rest.now) c.in_ok-more.ensures
    c.listed_assignment.ensures.shorter in
    omega (arith, less, l.invariant.1)

pub loop-all-smaller : goal.loop-all-smaller
loop-all-smaller c =
    if_pushed c.listed_assignment.result (c.in_ok-more.more, c.in_ok-more.after) _ _ (λ y. length y.1.now < length c.loop-all.rest.now) c.in_ok-more.ensures
    c.listed_assignment.ensures.shorter

pub loop-all-preserved : goal.loop-all-preserved
loop-all-preserved c =
    let l = c.loop-all in
    let next : Bool × Bor (List Token) = (c.in_ok-more.more, c.in_ok-more.after) in
    let less = if_pushed c.listed_assignment.result next _ _ (λ y. length y.1.now < length l.rest.now) c.in_ok-more.ensures
    c.listed_assignment.ensures.shorter in (
      λ o e.
          l.invariant.0 o e
          ∙ parses_on_with_pushed named_assignment with_assignments after_assignment assignments_twice c.listed_assignment.result next o _ _ _
          c.in_ok-more.ensures
          (c.listed_assignment.ensures.goes (with_assignments o (map named_assignment l.all.items)) e)
          ∙ ap (λ more. after_assignment (with_assignments o (map named_assignment c.push_read.new.parts.items)) (more, c.in_ok-more.after))
          c.if-not-more.false,
      omega (arith, less, l.invariant.1),
    )
