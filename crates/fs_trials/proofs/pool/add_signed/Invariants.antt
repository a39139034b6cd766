use Rattle.std.proofs.Common.{◌≡◌, drop}
use Rattle.std.specs.List.{fold, flat_map}
use Rattle.fs_trials.specs.Pool.{with_both_signs, with_pool_number}
use Rattle.fs_trials.proofs.pool.add_signed.Given as goal

-- what the numbers that are left add makes all of it
abbrev pub invariant-loop-value : goal.invariant-loop-value
invariant-loop-value l = fold (with_pool_number l.room) l.list.items (flat_map with_both_signs (drop l.value-index l.values))
    ≡ fold (with_pool_number l.room) l.initial.list.items (flat_map with_both_signs l.values)
