use Rattle.std.proofs.Common.{subst, sym, ap, rules}
use Rattle.std.specs.Option.{is_none}
use Rattle.hls_block_filling.specs.Profiles.{graph_in}
use Rattle.hls_block_filling.specs.WaitingItems.{rows_in, AreWaiting}
use Rattle.hls_block_filling.proofs.Counts.{some_wait, still_waiting, rows_put}
use Rattle.hls_block_filling.proofs.fill.place.Goals as goal

pub release-requires-clause-held : goal.release-requires-clause-held
release-requires-clause-held c = λ j h e. some_wait c.args.table.now (rows_in c.args.rows.now) c.args.k c.args.row j c.args.waits.now
    (ap is_none c.requires.free) c.requires.waiting h e

pub returns-clause-waiting : goal.returns-clause-waiting
returns-clause-waiting c =
    subst (λ z. AreWaiting (graph_in c.args.table.now) z c.args.row c.release.new.waits) (sym (rows_put c.args.rows.now c.args.k c.args.row (search rules)))
    (still_waiting c.args.table.now (rows_in c.args.rows.now) c.args.k c.args.row c.args.waits.now c.release.new.waits
    (ap is_none c.requires.free) c.requires.waits c.requires.waiting c.release.ensures)
