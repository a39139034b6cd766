use Rattle.std.specs.Option.{option_to_list}
use Rattle.std.proofs.lemmas.Result.{on_ok_weaker}
use Rattle.fs_trials.proofs.Pools.{around}
use Rattle.fs_trials.proofs.pool.add_around.Goals as goal

pub returns : goal.returns
returns c =
    on_ok_weaker c.add_any-2.result
    (around c.args.room c.args.c.now c.args.list.now.items c.add_any.new.list.items c.add.new.list.items c.add_any-2.new.list.items
    (option_to_list c.before-2.result) (option_to_list c.after.result) c.before-2.ensures.own c.before-2.ensures.number c.after.ensures
    c.in_ok-add_any.ensures c.in_ok-add.ensures) c.add_any-2.ensures
