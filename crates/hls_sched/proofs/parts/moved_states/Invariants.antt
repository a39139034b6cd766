use Rattle.std.proofs.Common.{◌≡◌, ◌-◌, ◌++◌, length, map}
use Rattle.std.specs.List.{range_with_len, flat_map}
use Rattle.fs_model.specs.View.{source_state_of, source_of}
use Rattle.hls_block_filling.specs.BasicBlocks.{all_states}
use Rattle.hls_block_filling.specs.SourceRows.{first_row_effect}
use Rattle.hls_block_filling.specs.Sources.{states_by}
use Rattle.hls_sched.specs.RowMoves.{move_of}
use Rattle.hls_sched.proofs.parts.moved_states.Given as goal

abbrev pub invariant-loop-q : goal.invariant-loop-q
invariant-loop-q l =
    map source_state_of l.out.items ++ flat_map (states_by (source_of l.parts) l.m (first_row_effect (map (move_of (source_of l.parts)) l.moves)))
    (range_with_len l.q (length l.m.states - l.q))
    ≡ flat_map (states_by (source_of l.parts) l.m (first_row_effect (map (move_of (source_of l.parts)) l.moves))) (all_states l.m)
