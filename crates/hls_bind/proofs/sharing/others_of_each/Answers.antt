use Rattle.std.proofs.Common.{[], map}
use Rattle.fs_variable_sets.specs.Sets.{has_variable}
use Rattle.hls_bind.specs.BindingEntries.{binding_entry}
use Rattle.hls_bind.specs.Shared.{others_in}
use Rattle.fs_model.proofs.Lists.{map_grown, of_whole}
use Rattle.hls_bind.proofs.Filled.{more_of}
use Rattle.hls_bind.proofs.sharing.others_of_each.Goals as goal

pub loop-one-preserved : goal.loop-one-preserved
loop-one-preserved c =
    let o = others_in (map binding_entry c.args.all.now) in
    more_of o binding_entry [] c.args.all.now c.loop-one.one-index c.one-item.result _ _ c.loop-one-test.true c.one-item.is
    (map_grown has_variable _ _ c.others_in.result (o (binding_entry c.one-item.result)) c.in_ok-push.ensures.items c.others_in.ensures) c.loop-one.invariant

pub returns : goal.returns
returns c = of_whole (λ bs. map (others_in (map binding_entry c.args.all.now)) (map binding_entry bs)) c.args.all.now c.loop-one.one-index _
    c.loop-one-test.false c.loop-one.invariant
