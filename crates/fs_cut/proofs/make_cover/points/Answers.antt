use Rattle.std.proofs.Common.{◌<◌, ◌∙◌, arith, length, map}
use Rattle.fs_cut.specs.View.{point_of}
use Rattle.fs_cut.proofs.Loops.{points_more}
use Rattle.fs_cut.proofs.make_cover.points.Goals as goal

pub loop-state-preserved : goal.loop-state-preserved
loop-state-preserved c =
    let low : c.loop-state.state < length c.args.m.now.states = omega (arith, c.loop-state-test.true, c.loop-state.invariant.all) in
    record {
      all = c.loop-state.invariant.all;
      done = points_more c.args.m.now (map point_of c.loop-state.out.items) (map point_of c.push_fork.new.out.items) _ _ low c.in_ok-push_fork.ensures
          ∙ c.loop-state.invariant.done;
    }
