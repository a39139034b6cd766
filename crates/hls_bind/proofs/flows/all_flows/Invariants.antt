use Rattle.std.proofs.Common.{◌≡◌, ◌++◌, ◌-◌, length, map}
use Rattle.hls_bind.specs.BranchFlows.{transfer_of, transfers_below}
use Rattle.hls_bind.proofs.flows.all_flows.Given as goal

abbrev pub invariant-loop-k : goal.invariant-loop-k
invariant-loop-k l = record {
  all : l.count ≡ length l.m.states;
  left : map transfer_of l.flows.items ++ transfers_below l.m (length l.m.states - l.k) ≡ transfers_below l.m (length l.m.states);
}
