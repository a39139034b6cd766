use Rattle.std.proofs.Common.{◌≡◌, map}
use Rattle.fs_model.specs.View.{source_of}
use Rattle.hls_block_filling.specs.ItemUnits.{units_in}
use Rattle.hls_block_filling.specs.SourceRows.{named_moves}
use Rattle.hls_sched.specs.RowMoves.{move_of}
use Rattle.hls_sched.proofs.Outcome.{parts_are}
use Rattle.hls_sched.proofs.scheduling.parts_in_rows.Goals as goal

pub returns-clause-parts : goal.returns-clause-parts
returns-clause-parts c =
    let p = source_of c.args.parts.now in
    let all : map (move_of (source_of c.args.parts.now)) c.deref.result.now ≡ named_moves (units_in c.args.units.now)
    (source_of c.args.parts.now) c.args.m.now = cc (c.deref.ensures.value, c.in_ok-moves.moves-is, c.in_ok-moves.ensures.moves p) in
    parts_are (units_in c.args.units.now) p (source_of c.in_ok-parts.parts) c.args.m.now (map (move_of p) c.deref.result.now) c.in_ok-parts.ensures all
