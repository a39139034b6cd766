use Rattle.std.proofs.Common.{◌≡◌, ◌++◌, take}
use Rattle.std.specs.Prelude.{map}
use Rattle.fs_model.specs.View.{branch_of}
use Rattle.hls_bind.specs.BranchFlows.{transfer_of, transfer_by}
use Rattle.hls_bind.proofs.flows.add_flows.Given as goal

abbrev pub invariant-loop-branch : goal.invariant-loop-branch
invariant-loop-branch l = map transfer_of l.flows.items ≡ map transfer_of l.initial.flows.items
    ++ map (transfer_by l.from) (map branch_of (take l.branch-index l.branches))
