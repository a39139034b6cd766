use Rattle.fs_cut.proofs.Loops.{has_first, first_target_at, first_target_is_in}
use Rattle.fs_cut.proofs.walk.first_target.Goals as goal

pub bounds-branches-0 : goal.bounds-branches-0
bounds-branches-0 c = has_first c.args.m.now c.args.state.0 c.branches.result.now c.branches.ensures.sound c.requires c.branches.ensures.branches

pub bounds-branches-0-2 : goal.bounds-branches-0-2
bounds-branches-0-2 c = has_first c.args.m.now c.args.state.0 c.branches.result.now c.branches.ensures.sound c.requires c.branches.ensures.branches

pub returns-clause-target : goal.returns-clause-target
returns-clause-target c = first_target_at c.args.m.now c.args.state.0 c.branches.result.now c.index-branches-0.result c.branches.ensures.sound c.requires
    c.branches.ensures.branches

pub returns-clause-in_range : goal.returns-clause-in_range
returns-clause-in_range c = first_target_is_in c.args.m.now c.args.state.0 c.branches.result.now c.index-branches-0.result c.branches.ensures.sound c.requires
    c.branches.ensures.branches
