use Rattle.std.proofs.Common.{sym, ◌∙◌}
use Rattle.nf_trees.specs.View.{polynomial_in}
use Rattle.nf_arrays.proofs.Inserting.{index_now, turn_dropped, turn_placed}
use Rattle.nf_arrays.proofs.writes.tidied_with.Goals as goal

pub place_write-requires-clause-index : goal.place_write-requires-clause-index
place_write-requires-clause-index c =
    index_now c.args.writes.now c.back.rest.now c.in-Some.earlier.now c.in-Some.field-0-0.now (polynomial_in c.args.index.now)
    (polynomial_in c.args.value.now) c.back.out.items c.back.invariant c.in-Some.ensures.cases.0 c.requires.tidy

pub back-preserved-in_ok-place_write : goal.back-preserved-in_ok-place_write
back-preserved-in_ok-place_write c =
    turn_placed c.args.writes.now c.back.rest.now c.in-Some.earlier.now c.in-Some.field-0-0.now (polynomial_in c.args.index.now)
    (polynomial_in c.args.value.now) c.back.out.items c.back.invariant c.in-Some.ensures.cases.0 c.requires.tidy c.place_write.new.out.items
    (sym c.is_same.ensures ∙ c.if-not-is_same.true) c.in_ok-place_write.ensures

pub back-preserved : goal.back-preserved
back-preserved c =
    turn_dropped c.args.writes.now c.back.rest.now c.in-Some.earlier.now c.in-Some.field-0-0.now (polynomial_in c.args.index.now)
    (polynomial_in c.args.value.now) c.back.out.items c.back.invariant c.in-Some.ensures.cases.0 c.requires.tidy
    (sym c.is_same.ensures ∙ c.if-not-is_same.false)
