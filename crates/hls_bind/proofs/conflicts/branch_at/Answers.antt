use Rattle.hls_bind.proofs.Loops.{branch_is, branch_low, target_low}
use Rattle.hls_bind.proofs.conflicts.branch_at.Goals as goal

pub returns-clause-branch : goal.returns-clause-branch
returns-clause-branch c = branch_is c.args.m.now c.args.state.0 c.args.number c.branches.result.now c.index-branches-number.result c.branches.ensures.branches
    (branch_low c.args.m.now c.args.state.0 c.args.number c.branches.result.now c.branches.ensures.branches c.requires.number) c.index-branches-number.is

pub returns-clause-target : goal.returns-clause-target
returns-clause-target c = target_low c.args.m.now c.args.state.0 c.args.number c.branches.result.now c.index-branches-number.result c.branches.ensures.sound
    c.branches.ensures.branches c.requires.number c.index-branches-number.is
