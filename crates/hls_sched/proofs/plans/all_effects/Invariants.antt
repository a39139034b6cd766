use Rattle.std.proofs.Common.{◌≡◌, take, map}
use Rattle.hls_block_filling.specs.BasicBlocks.{item_of}
use Rattle.hls_block_filling.specs.EffectSets.{sets_of, sets_from, none_changed}
use Rattle.hls_sched.proofs.plans.all_effects.Given as goal

abbrev pub invariant-loop-state : goal.invariant-loop-state
invariant-loop-state l = map sets_of l.out.items ≡ map (λ q. sets_from (item_of l.m q.0) none_changed) (take l.state-index l.states)
