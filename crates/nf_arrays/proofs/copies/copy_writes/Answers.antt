use Rattle.std.proofs.Common.{◌∙◌}
use Rattle.nf_trees.specs.View.{write_in}
use Rattle.nf_trees.proofs.Loops.{append_moves_mapped, all_there}
use Rattle.nf_arrays.proofs.copies.copy_writes.Goals as goal

pub loop-index-preserved : goal.loop-index-preserved
loop-index-preserved c =
    append_moves_mapped write_in _ _ c.args.writes.now c.loop-index.index-index c.loop-index-item.result c.loop-index-test.true c.loop-index-item.is
    c.in_ok-push_write_copy.ensures
    ∙ c.loop-index.invariant

pub returns : goal.returns
returns c = all_there write_in _ c.args.writes.now c.loop-index.index-index c.loop-index-test.false ∙ c.loop-index.invariant
