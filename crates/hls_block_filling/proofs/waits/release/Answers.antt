use Rattle.std.proofs.Common.{◌∙◌, arith}
use Rattle.hls_block_filling.proofs.Counts.{released_next, released_later}
use Rattle.hls_block_filling.proofs.waits.release.Goals as goal

pub release_one-requires-clause-held : goal.release_one-requires-clause-held
release_one-requires-clause-held c =
    λ e. omega (
      arith,
      c.loop-j.invariant.2 c.loop-j.j (omega arith) (omega (arith, c.loop-j-test.true)),
      c.requires.held c.loop-j.j (omega (arith, c.loop-j-test.true)) e,
    )

pub loop-j-preserved : goal.loop-j-preserved
loop-j-preserved c = (
  c.release_one.ensures.count ∙ c.loop-j.invariant.0,
  released_next c.args.table.now c.args.edge_kind c.args.k c.loop-j.j c.args.waits.now c.loop-j.waits c.release_one.new.waits c.loop-j.invariant.1
      c.loop-j.invariant.2 c.release_one.ensures.here c.release_one.ensures.others,
  released_later c.loop-j.j _ c.args.waits.now c.loop-j.waits c.release_one.new.waits c.loop-j.invariant.2 c.release_one.ensures.others,
  omega (arith, c.loop-j.invariant.3),
)
