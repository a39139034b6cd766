use Rattle.std.proofs.Common.{◌+◌, ◌<◌, ◌∙◌, arith, length}
use Rattle.std.specs.Prelude.{slice_get}
use Rattle.std.specs.List.{slice_index_or}
use Rattle.hls_block_filling.specs.Profiles.{edge_of_effects}
use Rattle.hls_block_filling.proofs.Levels.{first_upto, more_upto, low_upto}
use Rattle.hls_block_filling.proofs.heights.height.Goals as goal

pub loop-j-init : goal.loop-j-init
loop-j-init c = (first_upto c.args.effects.now c.args.heights.now c.args.item, omega (arith, c.requires.in_range), omega arith)

pub loop-j-preserved : goal.loop-j-preserved
loop-j-preserved c =
    let known : slice_index_or c.args.heights.now c.loop-j.j 0 + c.loop-j.j < length c.args.effects.now =
    c.requires.low.low c.loop-j.j (omega (arith, c.loop-j.invariant.2)) (omega (arith, c.loop-j-test.true)) in (
      c.height_by-best.ensures ∙ more_upto c.args.effects.now c.args.heights.now c.args.item c.loop-j.j c.loop-j.best c.loop-j.invariant.2 c.loop-j.invariant.0,
      low_upto (edge_of_effects (slice_get c.args.effects.now c.args.item) (slice_get c.args.effects.now c.loop-j.j)) c.height_by-best.result c.loop-j.best
          (slice_index_or c.args.heights.now c.loop-j.j 0) c.args.item c.loop-j.j
          (length c.args.effects.now) c.height_by-best.ensures c.loop-j.invariant.1 known c.loop-j.invariant.2,
      omega (arith, c.loop-j.invariant.2),
    )
