use Rattle.std.proofs.Common.{◌≡◌, drop}
use Rattle.std.specs.List.{fold, flat_map}
use Rattle.fs_trials.specs.Pool.{neighbours, with_pool_number}
use Rattle.fs_trials.proofs.pool.add_neighbours.Given as goal

-- what the constants that are left add makes all of it
abbrev pub invariant-loop-c : goal.invariant-loop-c
invariant-loop-c l = fold (with_pool_number l.room) l.list.items (flat_map neighbours (drop l.c-index l.constants))
    ≡ fold (with_pool_number l.room) l.initial.list.items (flat_map neighbours l.constants)
