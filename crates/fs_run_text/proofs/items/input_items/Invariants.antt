use Rattle.std.specs.Prelude.{map}
use Rattle.fs_stores.specs.Values.{content_of}
use Rattle.fs_stores.specs.InputValues.{input_values}
use Rattle.fs_run_text.specs.ItemTexts.{input_names}
use Rattle.fs_run_text.proofs.Told.{Steps}
use Rattle.fs_run_text.proofs.items.input_items.Given as goal

abbrev pub invariant-loop-variable : goal.invariant-loop-variable
invariant-loop-variable l = Steps (input_names l.m.variables) (map content_of (input_values l.inputs))
    (map (λ i. i.items) l.items.items) l.variable-items l.variable-index l.k
