use Rattle.std.proofs.Common.{◌-◌, length}
use Rattle.fs_rules.specs.TargetWalks.{IsTargetWalk, pass_count}
use Rattle.fs_rules.proofs.uncut_cycles.take_walk.Given as goal

abbrev pub invariant-loop-passes : goal.invariant-loop-passes
invariant-loop-passes l = IsTargetWalk l.next l.cut l.start l.walk l.initial.passes.items l.passes.items l.end l.steps

abbrev pub decreases-loop-passes : goal.decreases-loop-passes
decreases-loop-passes l = length l.passes.items - pass_count l.passes.items
