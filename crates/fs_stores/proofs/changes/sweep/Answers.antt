use Rattle.fs_stores.proofs.Slots.{sorts_stand}
use Rattle.fs_stores.proofs.changes.sweep.Goals as goal

pub returns-then-at-values-clause-sorts : goal.returns-then-at-values-clause-sorts
returns-then-at-values-clause-sorts c = sorts_stand c.args.values.now c.in-Put.x c.index-values-at.result c.sweep_in.new.value c.sweep_in.ensures.sort
