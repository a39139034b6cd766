use Rattle.std.proofs.Common.{◌≡◌, drop}
use Rattle.std.specs.Prelude.{map}
use Rattle.fs_stores.specs.Values.{content_of}
use Rattle.fs_runs.specs.Outcomes.{output_names, outputs_by_name, told_by}
use Rattle.fs_run_text.proofs.items.output_value.Given as goal

abbrev pub invariant-loop-variable : goal.invariant-loop-variable
invariant-loop-variable l = outputs_by_name (output_names (drop l.variable-index l.variable-items)) (map content_of l.rest) l.name
    ≡ told_by l.m l.outputs l.name
