use Rattle.fs_cut.proofs.Loops.{target_is_in}
use Rattle.fs_cut.proofs.walk.target.Goals as goal

pub returns-clause-in_range : goal.returns-clause-in_range
returns-clause-in_range c = target_is_in c.args.m.now c.args.state.0 c.args.branch c.branches.result.now c.index-branches-branch.result c.branches.ensures.sound
    c.branches.ensures.branches c.requires.branch
