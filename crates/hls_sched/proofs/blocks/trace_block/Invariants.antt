use Rattle.std.proofs.Common.{◌≡◌, ◌-◌, ◌<◌, ◌++◌, length, map}
use Rattle.hls_block_filling.specs.BasicBlocks.{block_from, basic_block_at, exit_from, exit_of}
use Rattle.hls_sched.proofs.blocks.trace_block.Given as goal

abbrev pub invariant-block : goal.invariant-block
invariant-block l = record {
  all : l.end ≡ length l.m.states;
  last_in : l.last.0 < length l.m.states;
  count : length l.states.items ≡ l.counter;
  traced : map (λ q. q.0) l.states.items ++ block_from l.m (length l.m.states - l.counter) l.last.0 ≡ basic_block_at l.m l.fn.first.0;
  exit : exit_from l.m (length l.m.states - l.counter) l.last.0 ≡ exit_of l.m l.fn.first.0;
}
