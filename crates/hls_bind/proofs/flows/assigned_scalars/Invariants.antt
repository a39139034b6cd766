use Rattle.std.proofs.Common.{◌≡◌, drop}
use Rattle.std.specs.Prelude.{map}
use Rattle.fs_model.specs.View.{assignment_of}
use Rattle.fs_model.specs.SoundMachines.{assigned_in}
use Rattle.fs_variable_sets.specs.Sets.{has_variable, also_all}
use Rattle.hls_bind.specs.BranchFlows.{has_below_128}
use Rattle.hls_bind.proofs.flows.assigned_scalars.Given as goal

abbrev pub invariant-loop-assign : goal.invariant-loop-assign
invariant-loop-assign l = also_all (assigned_in (map assignment_of (drop l.assign-index l.assigns))) (has_variable l.set)
    ≡ has_below_128 (assigned_in (map assignment_of l.assigns))
