use Rattle.std.proofs.Common.{sym, ◌∙◌}
use Rattle.nf_trees.specs.View.{polynomial_in}
use Rattle.nf_arrays.proofs.Inserting.{ordered_at, place_passed, place_here, place_last}
use Rattle.nf_arrays.proofs.writes.place_of.Goals as goal

pub returns-then-not-is_after-clause-placed : goal.returns-then-not-is_after-clause-placed
returns-then-not-is_after-clause-placed c =
    λ v. c.loop-place.invariant v ∙ place_here (polynomial_in c.args.index.now) v c.args.writes.now c.loop-place.place c.index-writes-place.result
    c.loop-place-test.true c.index-writes-place.is (sym c.is_after.ensures ∙ c.if-not-is_after.true)

pub loop-place-preserved : goal.loop-place-preserved
loop-place-preserved c =
    λ v. c.loop-place.invariant v ∙ place_passed (polynomial_in c.args.index.now) v c.args.writes.now c.loop-place.place c.index-writes-place.result
    c.loop-place-test.true c.index-writes-place.is (sym c.is_after.ensures ∙ c.if-not-is_after.false)

pub returns-clause-placed : goal.returns-clause-placed
returns-clause-placed c = λ v. c.loop-place.invariant v
    ∙ place_last (polynomial_in c.args.index.now) v c.args.writes.now c.loop-place.place c.loop-place-test.false

pub is_after-requires-clause-right : goal.is_after-requires-clause-right
is_after-requires-clause-right c = ordered_at c.args.writes.now c.loop-place.place c.index-writes-place.result c.requires.indices c.loop-place-test.true
    c.index-writes-place.is
