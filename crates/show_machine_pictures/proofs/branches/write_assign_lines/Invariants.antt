use Rattle.std.proofs.Common.{◌≡◌, ◌++◌, map, drop}
use Rattle.std.specs.List.{flat_map}
use Rattle.fs_model.specs.View.{assignment_of}
use Rattle.show_machine_pictures.specs.Pictures.{assignment_line}
use Rattle.show_machine_pictures.proofs.branches.write_assign_lines.Given as goal

abbrev pub invariant-loop-assign : goal.invariant-loop-assign
invariant-loop-assign l =
    l.out.items ++ flat_map (assignment_line l.variables) (map assignment_of (drop l.assign-index l.assigns)) ≡ l.fn.out.items
    ++ flat_map (assignment_line l.variables) (map assignment_of l.assigns)
