use Rattle.std.proofs.Common.{◌≡◌, take}
use Rattle.std.specs.Prelude.{map}
use Rattle.fs_model.specs.View.{named_assignment}
use Rattle.fs_model.specs.Renamed.{assignment_over}
use Rattle.fs_rules.specs.MachineOfParts.{place_or_end, names_of}
use Rattle.fs_model.specs.SoundMachines.{scalars_in_assignments, arrays_in_assignments, ports_in_assignments}
use Rattle.fs_rules.specs.Uses.{uses_of}
use Rattle.fs_rules.proofs.scope.Scope.assigns_uses.Given as goal

abbrev pub invariant-loop-assign : goal.invariant-loop-assign
invariant-loop-assign l =
    let done = map (assignment_over (place_or_end (names_of l.self.vars.items))) (map named_assignment (take l.assign-index l.assigns)) in
    l.uses ≡ uses_of l.self.vars.items (scalars_in_assignments done) (arrays_in_assignments done) (ports_in_assignments done)
