use Rattle.std.proofs.Common.{◌<◌, ◌∙◌, arith}
use Rattle.fs_model.specs.SoundMachines.{branch_count}
use Rattle.fs_cut.specs.Covers.{path_by}
use Rattle.fs_cut.specs.View.{point_of, path_of}
use Rattle.fs_cut.proofs.Loops.{more, range_map_step}
use Rattle.fs_cut.proofs.walk.paths.Goals as goal

pub loop-branch-preserved : goal.loop-branch-preserved
loop-branch-preserved c =
    let m = c.args.m.now in
    let q = c.args.state.0 in
    let k = c.loop-branch.branch in
    let f = path_by m (point_of c.args.from) q in
    let low : k < branch_count m q = omega (arith, c.loop-branch-test.true, c.loop-branch.invariant.all) in
    record {
      all = c.loop-branch.invariant.all;
      done = more path_of c.loop-branch.out.items c.push.new.self.items c.in_ok-path.field-0 (f k) _ _ c.in_ok-push.ensures.items c.in_ok-path.ensures
          (range_map_step f k (branch_count m q) low) ∙ c.loop-branch.invariant.done;
    }
