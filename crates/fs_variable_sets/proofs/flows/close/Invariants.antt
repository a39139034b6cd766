use Rattle.std.proofs.Common.{◌≡◌, length}
use Rattle.fs_variable_sets.specs.Flows.{flow_weight, AreLive}
use Rattle.fs_variable_sets.proofs.flows.close.Given as goal

abbrev pub invariant-rounds : goal.invariant-rounds
invariant-rounds l = (length l.live.items ≡ length l.initial.live.items) × (AreLive l.flows l.reset l.initial.live.items → AreLive l.flows l.reset l.live.items)

abbrev pub decreases-rounds : goal.decreases-rounds
decreases-rounds l = flow_weight l.live.items
