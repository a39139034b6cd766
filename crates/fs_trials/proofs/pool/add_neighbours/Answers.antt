use Rattle.std.proofs.Common.{◌≡◌, true, length, drop, refl, sym, ◌∙◌, ap}
use Rattle.std.specs.Prelude.{nat_le}
use Rattle.std.specs.List.{fold, flat_map}
use Rattle.fs_model.proofs.Lists.{same_there}
use Rattle.fs_trials.specs.Pool.{neighbours, with_pool_number}
use Rattle.fs_trials.proofs.Pools.{grown_full, more_made, none_left}
use Rattle.fs_trials.proofs.pool.add_neighbours.Goals as goal

pub returns-then-is_full : goal.returns-then-is_full
returns-then-is_full c =
    let p = c.loop-c.list.items in
    let full : nat_le c.args.room (length p) ≡ true = ap (λ x. nat_le c.args.room (length x)) (sym c.as_slice.ensures.value) ∙ sym c.is_full.ensures
    ∙ c.if-is_full.true in
    sym (grown_full c.args.room p (flat_map neighbours (drop c.loop-c.c-index c.args.constants.now)) full) ∙ c.loop-c.invariant

pub loop-c-preserved : goal.loop-c-preserved
loop-c-preserved c =
    let xs = c.args.constants.now in
    let i = c.loop-c.c-index in
    more_made neighbours c.args.room c.loop-c.list.items c.add_around.new.list.items xs i _ c.loop-c-test.true (same_there xs i _ _ c.loop-c-test.true)
    c.in_ok-add_around.ensures ∙ c.loop-c.invariant

pub returns : goal.returns
returns c =
    none_left (λ cs. fold (with_pool_number c.args.room) c.loop-c.list.items (flat_map neighbours cs)) c.loop-c.list.items _ c.args.constants.now
    c.loop-c.c-index refl c.loop-c-test.false c.loop-c.invariant
