use Rattle.std.proofs.Common.{◌≡◌, drop}
use Rattle.std.specs.Prelude.{map}
use Rattle.std.specs.List.{flat_map}
use Rattle.fs_model.specs.View.{assignment_of}
use Rattle.hls_bind.specs.Liveness.{read_by_assignment}
use Rattle.fs_variable_sets.specs.Sets.{has_variable, also_all}
use Rattle.hls_bind.proofs.flows.with_assignments.Given as goal

abbrev pub invariant-loop-assign : goal.invariant-loop-assign
invariant-loop-assign l = also_all (flat_map read_by_assignment (map assignment_of (drop l.assign-index l.assigns))) (has_variable l.set)
    ≡ also_all (flat_map read_by_assignment (map assignment_of l.assigns)) (has_variable l.initial.set)
