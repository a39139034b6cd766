use Rattle.std.proofs.Common.{◌≡◌, drop}
use Rattle.std.specs.Prelude.{map}
use Rattle.std.specs.List.{flat_map}
use Rattle.fs_model.specs.View.{shared_literal_of}
use Rattle.fs_model.specs.PartFolds.{scalars, uses_in_literal}
use Rattle.fs_variable_sets.specs.Sets.{has_variable, also_all}
use Rattle.hls_bind.specs.BranchFlows.{has_below_128}
use Rattle.hls_bind.proofs.flows.read_by_literals.Given as goal

abbrev pub invariant-loop-lit : goal.invariant-loop-lit
invariant-loop-lit l = also_all (flat_map (uses_in_literal scalars) (map shared_literal_of (drop l.lit-index l.lits))) (has_variable l.set)
    ≡ has_below_128 (flat_map (uses_in_literal scalars) (map shared_literal_of l.lits))
