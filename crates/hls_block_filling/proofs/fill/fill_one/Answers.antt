use Rattle.std.proofs.Common.{◌≡◌, ◌∙◌, subst, sym, ap, true}
use Rattle.hls_block_filling.specs.ItemUnits.{Units, suffice}
use Rattle.hls_block_filling.specs.Filling.{more_units}
use Rattle.hls_block_filling.specs.ItemUnits.{units_in}
use Rattle.hls_block_filling.specs.Profiles.{graph_in, units_of_uses}
use Rattle.hls_block_filling.specs.WaitingItems.{rows_in}
use Rattle.hls_block_filling.proofs.Counts.{are_ready, item_free, item_fits, row_goes, low_put}
use Rattle.hls_block_filling.proofs.fill.fill_one.Goals as goal

pub next_item-requires-clause-ready : goal.next_item-requires-clause-ready
next_item-requires-clause-ready c = are_ready (graph_in c.args.table.now) (rows_in c.args.rows.now) c.args.row c.args.waits.now c.requires.waiting

pub place-requires-clause-free : goal.place-requires-clause-free
place-requires-clause-free c = item_free (graph_in c.args.table.now) (units_in c.args.units.now)
    (rows_in c.args.rows.now) c.args.row (units_of_uses c.args.used.now) c.in-Some.k c.in-Some.ensures.next

pub add_uses-requires : goal.add_uses-requires
add_uses-requires c =
    subst (λ (u : Units). suffice (units_in c.args.units.now) (units_of_uses c.args.used.now) u ≡ true) (sym c.uses_of.ensures)
    (item_fits (graph_in c.args.table.now) (units_in c.args.units.now) (rows_in c.args.rows.now) c.args.row
    (units_of_uses c.args.used.now) c.in-Some.k c.in-Some.ensures.next)

pub returns-in-Some-clause-filled : goal.returns-in-Some-clause-filled
returns-in-Some-clause-filled c = λ n.
    row_goes (graph_in c.args.table.now) (units_in c.args.units.now) n c.args.row (rows_in c.args.rows.now) (rows_in c.place.new.rows)
    (units_of_uses c.args.used.now) (units_of_uses c.add_uses.result) c.in-Some.k c.in-Some.ensures.next c.place.ensures.rows
    (c.add_uses.ensures ∙ ap (λ (u : Units). more_units (units_of_uses c.args.used.now) u) c.uses_of.ensures)

pub returns-in-Some-clause-low : goal.returns-in-Some-clause-low
returns-in-Some-clause-low c = λ w. low_put (graph_in c.args.table.now) (rows_in c.args.rows.now)
    (rows_in c.place.new.rows) c.in-Some.k c.args.row c.place.ensures.rows w
