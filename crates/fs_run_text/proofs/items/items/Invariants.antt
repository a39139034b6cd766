use Rattle.std.proofs.Common.{take, drop}
use Rattle.std.specs.Prelude.{map}
use Rattle.fs_runs.specs.Outcomes.{output_names, told_by, HoldsEach}
use Rattle.fs_run_text.specs.ItemTexts.{AreItems}
use Rattle.fs_run_text.proofs.items.items.Given as goal

abbrev pub invariant-loop-variable : goal.invariant-loop-variable
invariant-loop-variable l = record {
  rest : HoldsEach (told_by l.m l.outputs) (output_names (drop l.variable-index l.variable-items));
  done : AreItems (told_by l.m l.outputs) (output_names (take l.variable-index l.variable-items)) (map (λ i. i.items) l.items.items);
}
