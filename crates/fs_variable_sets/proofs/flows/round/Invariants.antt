use Rattle.std.proofs.Common.{◌≡◌, ◌<◌, true, false, length, All, take}
use Rattle.fs_variable_sets.specs.Flows.{IsFixedPoint, flow_weight, AreLive}
use Rattle.fs_variable_sets.proofs.flows.round.Given as goal

abbrev pub invariant-loop-flow : goal.invariant-loop-flow
invariant-loop-flow l =
    (length l.live.items ≡ length l.initial.live.items)
    × (l.changed ≡ false → (l.live.items ≡ l.initial.live.items) × All (IsFixedPoint l.reset l.initial.live.items) (take l.flow-index l.flows))
    × (l.changed ≡ true → flow_weight l.live.items < flow_weight l.initial.live.items)
    × (AreLive l.flows l.reset l.initial.live.items → AreLive l.flows l.reset l.live.items)
