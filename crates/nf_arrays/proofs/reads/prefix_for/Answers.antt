use Rattle.std.proofs.Common.{sym, ◌∙◌}
use Rattle.nf_trees.specs.View.{polynomial_in}
use Rattle.nf_arrays.proofs.Stopping.{none_passed, one_passed, back_ordered, stops}
use Rattle.nf_arrays.proofs.reads.prefix_for.Goals as goal

pub back-init : goal.back-init
back-init c = none_passed (polynomial_in c.args.i.now) c.args.writes.now

pub are_apart-requires-clause-left : goal.are_apart-requires-clause-left
are_apart-requires-clause-left c = back_ordered (polynomial_in c.args.i.now) c.args.writes.now c.back.rest.now c.in-Some.earlier.now c.in-Some.field-0-0.now
    c.back.invariant c.in-Some.ensures.cases.0 c.requires.tidy

pub back-preserved : goal.back-preserved
back-preserved c = one_passed (polynomial_in c.args.i.now) c.args.writes.now c.back.rest.now c.in-Some.earlier.now c.in-Some.field-0-0.now c.back.invariant
    c.in-Some.ensures.cases.0 (sym c.are_apart.ensures ∙ c.if-not-are_apart.false)

pub returns-then-not-are_apart : goal.returns-then-not-are_apart
returns-then-not-are_apart c = stops (polynomial_in c.args.i.now) c.back.rest.now c.in-Some.earlier.now c.in-Some.field-0-0.now c.in-Some.ensures.cases.0
    (sym c.are_apart.ensures ∙ c.if-not-are_apart.true) ∙ c.back.invariant.same
