use Rattle.std.proofs.Common.{◌∙◌, take, length}
use Rattle.std.specs.Prelude.{pos}
use Rattle.fs_stores.specs.declared.changes.Change.TheVariants.{Set}
use Rattle.fs_stores.specs.Changes.{suits, is_ready_change}
use Rattle.fs_stores.proofs.Slots.{suits_same, all_at, all_mono, all_more}
use Rattle.fs_stores.proofs.changes.make_room.Goals as goal

pub make_room_for-requires : goal.make_room_for-requires
make_room_for-requires c =
    suits_same c.loop-change.values c.args.values.now _ c.loop-change.invariant.sorts
    ∙ all_at (suits c.args.values.now) c.args.changes.now c.loop-change.change-index (Set 0 (pos 0)) c.loop-change-test.true c.requires

pub loop-change-preserved : goal.loop-change-preserved
loop-change-preserved c = record {
  same = c.make_room_for.ensures.stays.same ∙ c.loop-change.invariant.same;
  sorts = c.make_room_for.ensures.stays.sorts ∙ c.loop-change.invariant.sorts;
  ready = all_more (is_ready_change (length c.args.changes.now) c.make_room_for.new.values) c.args.changes.now c.loop-change.change-index
      (Set 0 (pos 0)) c.loop-change-test.true
      (all_mono (is_ready_change (length c.args.changes.now) c.loop-change.values) (is_ready_change (length c.args.changes.now) c.make_room_for.new.values)
      (take c.loop-change.change-index c.args.changes.now) (c.make_room_for.ensures.stays.keeps (length c.args.changes.now)) c.loop-change.invariant.ready)
      c.in_ok-make_room_for.ensures.room;
}
