use Rattle.std.proofs.Common.{◌≡◌, ◌++◌, drop}
use Rattle.std.specs.List.{flat_map}
use Rattle.show_traces.specs.Traces.{change_behind}
use Rattle.show_traces.proofs.lines.write_more_changes.Given as goal

abbrev pub invariant-loop-change : goal.invariant-loop-change
invariant-loop-change l = l.out.items ++ flat_map (change_behind l.variables) (drop l.change-index l.changes)
    ≡ l.initial.out.items ++ flat_map (change_behind l.variables) l.changes
