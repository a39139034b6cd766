use Rattle.std.proofs.Common.{◌<◌, ◌∙◌, arith, length, map, Vec, Global}
use Rattle.fs_cut.specs.declared.cover.Path.{Path as CodePath}
use Rattle.fs_cut.specs.View.{path_of}
use Rattle.fs_cut.proofs.Listed.{paths_at}
use Rattle.fs_cut.proofs.Loops.{more, range_map_step}
use Rattle.fs_cut.proofs.make_cover.all_forks.Goals as goal

pub loop-state-preserved : goal.loop-state-preserved
loop-state-preserved c =
    let m = c.args.m.now in
    let k = c.loop-state.state in
    let n = length m.states in
    let low : k < n = omega (arith, c.loop-state-test.true, c.loop-state.invariant.all) in
    record {
      all = c.loop-state.invariant.all;
      done = more (λ (ps : Vec CodePath Global). map path_of ps.items) c.loop-state.out.items c.push.new.self.items _
          (paths_at m k) _ _ c.in_ok-push.ensures.items c.in_ok-fork_paths.ensures (range_map_step (paths_at m) k n low) ∙ c.loop-state.invariant.done;
    }
