use Rattle.std.proofs.Common.{◌≡◌, ℕ, ◌<◌, ◌++◌, map}
use Rattle.std.specs.List.{All}
use Rattle.fs_model.specs.Source.{Source}
use Rattle.hls_block_filling.specs.RowMachines.{moves}
use Rattle.hls_block_filling.specs.Plans.{filled_in}
use Rattle.hls_block_filling.specs.SourceRows.{placed_in_block, rows_in_block}
use Rattle.hls_sched.specs.RowMoves.{move_of, IsMoveAmong}
use Rattle.hls_sched.proofs.Rows.{moves_left}
use Rattle.hls_sched.proofs.moves.add_moves.Given as goal

abbrev pub invariant-loop-row : goal.invariant-loop-row
invariant-loop-row l = record {
  moves : (p : Source) → map (move_of p) l.out.items ++ moves_left l.block.exit.0 (map (λ q. q.0) l.block.states.items)
      (placed_in_block p (map (λ q. q.0) l.block.states.items) (filled_in l.plan)) l.plan.count l.row
      ≡ map (move_of p) l.initial.out.items ++ moves l.block.exit.0 (map (λ q. q.0) l.block.states.items)
      (rows_in_block p (map (λ q. q.0) l.block.states.items) (filled_in l.plan));
  among : (count : ℕ) → All (λ q. q.0 < count) l.block.states.items → l.block.exit.0 < count → All (IsMoveAmong count) l.initial.out.items
      → All (IsMoveAmong count) l.out.items;
}
