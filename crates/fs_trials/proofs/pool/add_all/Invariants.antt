use Rattle.std.proofs.Common.{◌≡◌, drop}
use Rattle.std.specs.List.{fold}
use Rattle.fs_trials.specs.Pool.{with_pool_number}
use Rattle.fs_trials.proofs.pool.add_all.Given as goal

abbrev pub invariant-loop-value : goal.invariant-loop-value
invariant-loop-value l = fold (with_pool_number l.room) l.list.items (drop l.value-index l.values)
    ≡ fold (with_pool_number l.room) l.initial.list.items l.values
