use Rattle.std.proofs.Common.{◌≡◌, ◌<◌, ◌++◌, ◌∷◌, [], ◌∙◌, sym, arith, rules, length, get_or}
use Rattle.hls_block_filling.specs.WaitingItems.{rows_in}
use Rattle.hls_sched.proofs.Rows.{row_takes, row_skips, among_more}
use Rattle.hls_sched.proofs.moves.items_in_row.Goals.{then-is_in_row+in_ok-push, else-is_in_row}
use Rattle.hls_sched.proofs.moves.items_in_row.Goals as goal

pub loop-item-preserved : goal.loop-item-preserved
loop-item-preserved c =
    let states = c.args.block.now.states.items in
    let rows = rows_in c.args.plan.now.rows.items in
    let item = c.loop-item.item in
    let low : c.loop-item.item < length c.args.block.now.states.items = omega (arith, c.loop-item-test.true, c.len-item-end.ensures) in
    elim c.if-is_in_row.branch [
      | then-is_in_row+in_ok-push w ↦ (
          let q = w.index.result.now in
          let own : w.index.result.now ≡ get_or c.args.block.now.states.items c.loop-item.item w.index.result.now = search rules in
          let put : c.if-is_in_row.out.items ≡ c.loop-item.out.items ++ w.index.result.now ∷ [] = cc (w.out-is, w.in_ok-push.ensures.items) in
          record {
            items = λ p. row_takes p states rows c.args.row c.args.plan.now.count item q c.loop-item.out.items c.if-is_in_row.out.items _ low own
                (c.requires.placed item low) (sym c.is_in_row.ensures ∙ w.if-is_in_row.true) put (c.loop-item.invariant.items p);
            among = λ count all. among_more count states c.loop-item.out.items c.if-is_in_row.out.items item q low own put all
                (c.loop-item.invariant.among count all);
          })
      | else-is_in_row w ↦ (
          let same : c.if-is_in_row.out.items ≡ c.loop-item.out.items = cc w.out-is in
          record {
            items = λ p. row_skips p states rows c.args.row c.args.plan.now.count item c.loop-item.out.items c.if-is_in_row.out.items _ low
                (c.requires.placed item low) (sym c.is_in_row.ensures ∙ w.if-is_in_row.false) same (c.loop-item.invariant.items p);
            among = λ count all. rw same (c.loop-item.invariant.among count all);
          })
    ]
