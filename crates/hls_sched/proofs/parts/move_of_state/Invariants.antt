use Rattle.std.proofs.Common.{◌≡◌, drop, map}
use Rattle.fs_model.specs.Source.{Source}
use Rattle.hls_block_filling.specs.SourceRows.{first_row_effect}
use Rattle.hls_sched.specs.RowMoves.{move_of}
use Rattle.hls_sched.proofs.parts.move_of_state.Given as goal

abbrev pub invariant-loop-one : goal.invariant-loop-one
invariant-loop-one l = (p : Source) → first_row_effect (map (move_of p) (drop l.one-index l.moves)) l.state.0
    ≡ first_row_effect (map (move_of p) l.moves) l.state.0
