use Rattle.std.proofs.Common.{◌≡◌, ◌++◌, take}
use Rattle.std.specs.Prelude.{map}
use Rattle.fs_model.specs.View.{assignment_of}
use Rattle.fs_model.specs.SoundMachines.{numbers_in_assignments}
use Rattle.fs_ast.proofs.constants.add_assigns.Given as goal

abbrev pub invariant-loop-assign : goal.invariant-loop-assign
invariant-loop-assign l = l.out.items ≡ l.initial.out.items ++ numbers_in_assignments (map assignment_of (take l.assign-index l.assigns))
