use Rattle.std.specs.Option.{option_to_list}
use Rattle.std.proofs.lemmas.Result.{on_ok_weaker}
use Rattle.fs_trials.proofs.Pools.{both_signs}
use Rattle.fs_trials.proofs.pool.add_both_signs.Goals as goal

pub returns : goal.returns
returns c =
    on_ok_weaker c.add_any.result
    (both_signs c.args.room c.args.c.now c.args.list.now.items c.add.new.list.items c.add_any.new.list.items (option_to_list c.negated.result)
    c.negated.ensures c.in_ok-add.ensures) c.add_any.ensures
