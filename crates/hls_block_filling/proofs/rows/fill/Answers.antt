use Rattle.std.proofs.Common.{◌≡◌, suc, ◌+◌, ◌-◌, ◌∙◌, sym, ap, subst, arith, length}
use Rattle.hls_block_filling.specs.Filling.{Rows, filled_from}
use Rattle.hls_block_filling.specs.ItemUnits.{units_in}
use Rattle.hls_block_filling.specs.Profiles.{graph_in}
use Rattle.hls_block_filling.specs.WaitingItems.{rows_in, AreWaiting}
use Rattle.hls_block_filling.proofs.Counts.{first_low, low_more}
use Rattle.hls_block_filling.proofs.rows.fill.Goals as goal

pub loop-r-init : goal.loop-r-init
loop-r-init c =
    let e : length c.args.table.now - 0 ≡ length c.args.table.now = omega arith in (
      c.requires.rows,
      c.requires.waits,
      c.requires.waiting,
      first_low (graph_in c.args.table.now) (rows_in c.args.rows.now) c.requires.empty,
      ap (λ n. filled_from (graph_in c.args.table.now) (units_in c.args.units.now) n 0 (rows_in c.args.rows.now)) e
          ∙ ap (λ (rows : Rows). filled_from (graph_in c.args.table.now) (units_in c.args.units.now) (length c.args.table.now) 0 rows) c.requires.empty,
    )

pub returns-then-not-fill_next : goal.returns-then-not-fill_next
returns-then-not-fill_next c =
    let e : suc (length c.args.table.now - (c.loop-r.r + 1)) ≡ length c.args.table.now - c.loop-r.r = omega (arith, c.loop-r-test.true) in
    sym (c.if-not-fill_next.ensures.filled (length c.args.table.now - (c.loop-r.r + 1)))
    ∙ ap (λ n. filled_from (graph_in c.args.table.now) (units_in c.args.units.now) n c.loop-r.r (rows_in c.loop-r.rows)) e
    ∙ c.loop-r.invariant.4

pub loop-r-preserved : goal.loop-r-preserved
loop-r-preserved c =
    let e : suc (length c.args.table.now - (c.loop-r.r + 1)) ≡ length c.args.table.now - c.loop-r.r = omega (arith, c.loop-r-test.true) in
    let d : suc c.loop-r.r ≡ c.loop-r.r + 1 = omega arith in (
      c.fill_next.ensures.row_count,
      c.fill_next.ensures.wait_count,
      subst (λ r. AreWaiting (graph_in c.args.table.now) (rows_in c.fill_next.new.rows) r c.fill_next.new.waits) d
          (c.fill_next.ensures.waiting c.if-not-fill_next.false),
      low_more (graph_in c.args.table.now) (rows_in c.fill_next.new.rows) c.loop-r.r c.fill_next.ensures.low,
      sym
          (ap
          (λ r. filled_from (graph_in c.args.table.now) (units_in c.args.units.now)
          (length c.args.table.now - (c.loop-r.r + 1)) r (rows_in c.fill_next.new.rows)) d)
          ∙ sym (c.if-not-fill_next.ensures.filled (length c.args.table.now - (c.loop-r.r + 1)))
          ∙ ap (λ n. filled_from (graph_in c.args.table.now) (units_in c.args.units.now) n c.loop-r.r (rows_in c.loop-r.rows)) e
          ∙ c.loop-r.invariant.4,
    )
