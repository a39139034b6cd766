use Rattle.fs_cut.proofs.Loops.{has_first, first_target_at, first_target_is_in}
use Rattle.hls_sched.proofs.blocks.next.Goals as goal

pub bounds-branches-0 : goal.bounds-branches-0
bounds-branches-0 c = has_first c.args.m.now c.args.state.0 c.branches.result.now c.branches.ensures.sound c.requires c.branches.ensures.branches

pub bounds-branches-0-2 : goal.bounds-branches-0-2
bounds-branches-0-2 c = has_first c.args.m.now c.args.state.0 c.branches.result.now c.branches.ensures.sound c.requires c.branches.ensures.branches

pub returns-clause-next : goal.returns-clause-next
returns-clause-next c = first_target_at c.args.m.now c.args.state.0 c.branches.result.now c.index-branches-0.result c.branches.ensures.sound c.requires
    c.branches.ensures.branches

pub returns-clause-within : goal.returns-clause-within
returns-clause-within c = first_target_is_in c.args.m.now c.args.state.0 c.branches.result.now c.index-branches-0.result c.branches.ensures.sound c.requires
    c.branches.ensures.branches
