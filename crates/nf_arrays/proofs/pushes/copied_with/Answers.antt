use Rattle.nf_arrays.proofs.Pushing.{push_moves_item, last_one}
use Rattle.nf_arrays.proofs.pushes.copied_with.Goals as goal

pub loop-item-preserved : goal.loop-item-preserved
loop-item-preserved c =
    push_moves_item c.args.items.now c.loop-item.out.items _ c.loop-item.item-index c.item-item.result _ c.loop-item-test.true c.item-item.is
    c.in_ok-push.ensures.items c.in_ok-try_clone.ensures c.loop-item.invariant

pub returns : goal.returns
returns c =
    last_one c.args.items.now c.loop-item.out.items _ c.loop-item.item-index c.args.last.now _ c.loop-item-test.false
    c.in_ok-push-2.ensures.items c.in_ok-try_clone-2.ensures c.loop-item.invariant
