use Rattle.std.proofs.Common.{◌≡◌, suc, ◌+◌, ◌-◌, ◌∙◌, sym, ap, arith, length}
use Rattle.hls_block_filling.specs.Filling.{row_filled}
use Rattle.hls_block_filling.specs.ItemUnits.{units_in}
use Rattle.hls_block_filling.specs.Profiles.{graph_in, units_of_uses}
use Rattle.hls_block_filling.specs.WaitingItems.{rows_in}
use Rattle.hls_block_filling.proofs.fill.fill_row.Goals as goal

pub returns-then-not-fill_one-clause-filled : goal.returns-then-not-fill_one-clause-filled
returns-then-not-fill_one-clause-filled c =
    let e : suc (length c.args.table.now - (c.loop-i.i + 1)) ≡ length c.args.table.now - c.loop-i.i = omega (arith, c.loop-i-test.true) in
    sym (c.if-not-fill_one.ensures.filled (length c.args.table.now - (c.loop-i.i + 1)))
    ∙ ap (λ n. row_filled (graph_in c.args.table.now) (units_in c.args.units.now) n c.args.row (rows_in c.loop-i.rows) (units_of_uses c.loop-i.used)) e
    ∙ c.loop-i.invariant.3

pub loop-i-preserved : goal.loop-i-preserved
loop-i-preserved c =
    let e : suc (length c.args.table.now - (c.loop-i.i + 1)) ≡ length c.args.table.now - c.loop-i.i = omega (arith, c.loop-i-test.true) in (
      c.fill_one.ensures.row_count,
      c.fill_one.ensures.wait_count,
      c.fill_one.ensures.waiting,
      sym (c.if-not-fill_one.ensures.filled (length c.args.table.now - (c.loop-i.i + 1)))
          ∙ ap (λ n. row_filled (graph_in c.args.table.now) (units_in c.args.units.now) n c.args.row (rows_in c.loop-i.rows) (units_of_uses c.loop-i.used)) e
          ∙ c.loop-i.invariant.3,
      (λ w. c.fill_one.ensures.low (c.loop-i.invariant.4 w)),
    )
