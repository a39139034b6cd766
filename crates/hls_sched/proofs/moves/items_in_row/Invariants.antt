use Rattle.std.proofs.Common.{◌≡◌, ℕ, ◌<◌, ◌++◌, map}
use Rattle.std.specs.List.{All}
use Rattle.fs_model.specs.Source.{Source}
use Rattle.hls_block_filling.specs.Plans.{filled_in}
use Rattle.hls_block_filling.specs.WaitingItems.{rows_in}
use Rattle.hls_block_filling.specs.SourceRows.{row_of}
use Rattle.hls_sched.specs.RowMoves.{joined_items}
use Rattle.hls_sched.proofs.Rows.{row_left}
use Rattle.hls_sched.proofs.moves.items_in_row.Given as goal

abbrev pub invariant-loop-item : goal.invariant-loop-item
invariant-loop-item l = record {
  items : (p : Source) → joined_items p l.out.items ++ row_left p (map (λ q. q.0) l.block.states.items) (rows_in l.plan.rows.items) l.row l.item
      ≡ row_of p (map (λ q. q.0) l.block.states.items) (filled_in l.plan) l.row;
  among : (count : ℕ) → All (λ q. q.0 < count) l.block.states.items → All (λ q. q.0 < count) l.out.items;
}
