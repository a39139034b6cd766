use Rattle.std.proofs.Common.{◌++◌, map}
use Rattle.fs_model.specs.View.{branch_of}
use Rattle.hls_bind.specs.BranchFlows.{transfer_of, transfer_by}
use Rattle.fs_model.proofs.Lists.{map_grown, of_whole}
use Rattle.hls_bind.proofs.Filled.{more_of}
use Rattle.hls_bind.proofs.flows.add_flows.Goals as goal

pub loop-branch-preserved : goal.loop-branch-preserved
loop-branch-preserved c =
    let t = transfer_by c.args.from in
    more_of t branch_of _ c.args.branches.now c.loop-branch.branch-index c.branch-item.result _ _ c.loop-branch-test.true c.branch-item.is
    (map_grown transfer_of _ _ c.flow.result (t (branch_of c.branch-item.result)) c.in_ok-push.ensures.items c.flow.ensures) c.loop-branch.invariant

pub returns : goal.returns
returns c = of_whole (λ bs. map transfer_of c.args.flows.now.items ++ map (transfer_by c.args.from) (map branch_of bs))
    c.args.branches.now c.loop-branch.branch-index _ c.loop-branch-test.false c.loop-branch.invariant
