use Rattle.std.proofs.Common.{◌≡◌, take, map}
use Rattle.hls_unit_counts.specs.declared.units.Unit.{Unit as Kind}
use Rattle.hls_block_filling.specs.BasicBlocks.{item_of}
use Rattle.hls_block_filling.specs.ItemUnits.{used_by}
use Rattle.hls_block_filling.specs.Profiles.{units_of_uses, capped_count}
use Rattle.hls_sched.proofs.plans.all_uses.Given as goal

abbrev pub invariant-loop-state : goal.invariant-loop-state
invariant-loop-state l = (kind : Kind) → map (λ u. units_of_uses u kind) l.out.items
    ≡ map (λ q. capped_count (used_by (item_of l.m q.0) kind)) (take l.state-index l.states)
