use Rattle.std.proofs.Common.{◌≡◌, ◌++◌, map, drop}
use Rattle.fs_model.specs.View.{branch_of}
use Rattle.show_machine_pictures.specs.Pictures.{branch_edges}
use Rattle.show_machine_pictures.proofs.branches.write_branches.Given as goal

abbrev pub invariant-loop-number : goal.invariant-loop-number
invariant-loop-number l =
    l.out.items ++ branch_edges l.machine l.state.0 l.number (map branch_of (drop l.number l.branches)) ≡ l.fn.out.items
    ++ branch_edges l.machine l.state.0 0 (map branch_of l.branches)
