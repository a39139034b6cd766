use Rattle.std.proofs.Common.{◌≡◌, take, map, length}
use Rattle.std.specs.List.{All, flat_map}
use Rattle.fs_model.specs.Source.{Source}
use Rattle.hls_block_filling.specs.ItemUnits.{units_in}
use Rattle.hls_sched.specs.RowMoves.{move_of, IsMoveAmong}
use Rattle.hls_sched.specs.TracedBlocks.{moves_from}
use Rattle.hls_sched.specs.Reports.{report_of, report_at}
use Rattle.hls_sched.proofs.scheduling.schedule_blocks.Given as goal

abbrev pub invariant-loop-first : goal.invariant-loop-first
invariant-loop-first l = record {
  reports : map report_of l.reports.items ≡ map (λ q. report_at (units_in l.units) l.m q.0) (take l.first-index l.first-items);
  moves : (p : Source) → map (move_of p) l.moves.items ≡ flat_map (moves_from (units_in l.units) p l.m) (map (λ q. q.0) (take l.first-index l.first-items));
  among : All (IsMoveAmong (length l.m.states)) l.moves.items;
}
