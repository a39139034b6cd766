use Rattle.std.proofs.Common.{◌≡◌, ◌≤◌, take}
use Rattle.std.specs.Prelude.{map}
use Rattle.fs_model.specs.View.{named_assignment}
use Rattle.fs_model.specs.SoundMachines.{emit_count}
use Rattle.fs_rules.proofs.rules.emit_count.Given as goal

abbrev pub invariant-loop-assign : goal.invariant-loop-assign
invariant-loop-assign l = record {
  count : l.count ≡ emit_count (map named_assignment (take l.assign-index l.assigns));
  few : l.count ≤ l.assign-index;
}
