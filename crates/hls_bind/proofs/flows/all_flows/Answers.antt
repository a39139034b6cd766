use Rattle.std.proofs.Common.{◌∙◌, ◌-◌, ◌++◌, ap, length, map, List}
use Rattle.fs_model.specs.Trees.{Branch}
use Rattle.hls_bind.specs.BranchFlows.{transfer_of, transfer_by}
use Rattle.hls_bind.proofs.Loops.{transfers_more}
use Rattle.hls_bind.proofs.flows.all_flows.Goals as goal

pub loop-k-preserved : goal.loop-k-preserved
loop-k-preserved c =
    let flows = map transfer_of c.loop-k.flows.items in
    record {
      all = c.loop-k.invariant.all;
      left = transfers_more c.args.m.now c.loop-k.k c.state_count-count.result (length c.args.m.now.states) flows
          (map transfer_of c.add_flows.new.flows.items) c.loop-k.invariant.all c.loop-k-test.true
          (c.in_ok-add_flows.ensures
          ∙ ap (λ (bs : List Branch). flows ++ map (transfer_by (c.state_count-count.result - 1 - c.loop-k.k)) bs) c.branches.ensures.branches)
          ∙ c.loop-k.invariant.left;
    }
