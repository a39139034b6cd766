use Rattle.std.proofs.Common.{refl, ◌∙◌}
use Rattle.std.specs.List.{fold}
use Rattle.fs_model.proofs.Lists.{same_there}
use Rattle.fs_trials.specs.Pool.{with_pool_number}
use Rattle.fs_trials.proofs.Pools.{number_moves_into_pool, none_left}
use Rattle.fs_trials.proofs.pool.add_all.Goals as goal

pub loop-value-preserved : goal.loop-value-preserved
loop-value-preserved c =
    let xs = c.args.values.now in
    let i = c.loop-value.value-index in
    number_moves_into_pool c.args.room c.loop-value.list.items c.add.new.list.items xs i _ c.loop-value-test.true (same_there xs i _ _ c.loop-value-test.true)
    c.in_ok-add.ensures ∙ c.loop-value.invariant

pub returns : goal.returns
returns c =
    none_left (fold (with_pool_number c.args.room) c.loop-value.list.items) c.loop-value.list.items _ c.args.values.now c.loop-value.value-index
    refl c.loop-value-test.false c.loop-value.invariant
