use Rattle.std.proofs.Common.{◌≡◌, ◌-◌, ◌++◌, length, map}
use Rattle.std.specs.Prelude.{filter}
use Rattle.std.specs.List.{range_with_len}
use Rattle.hls_block_filling.specs.BasicBlocks.{is_first_of_block, firsts}
use Rattle.hls_sched.proofs.blocks.firsts.Given as goal

abbrev pub invariant-loop-q : goal.invariant-loop-q
invariant-loop-q l = record {
  all : l.q-end ≡ length l.m.states;
  done : map (λ q. q.0) l.out.items ++ filter (is_first_of_block l.m) (range_with_len l.q (length l.m.states - l.q)) ≡ firsts l.m;
}
