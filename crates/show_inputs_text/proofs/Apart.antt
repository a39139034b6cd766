-- Ends that are apart show a difference.
use Rattle.std.proofs.Common.{ℕ, List}
use Rattle.fs_model.specs.Machines.{Fsmd}
use Rattle.fs_model.specs.Runs.{Inputs}
use Rattle.fs_runs.specs.declared.run.Ended.{Ended}
use Rattle.fs_stores.specs.InputValues.{input_signatures}
use Rattle.fs_runs.specs.Outcomes.{told_by}
use Rattle.fs_inputs.specs.Refusals.{SpellsInputFile}
use Rattle.fs_trials.specs.Differences.{AreApart}
use Rattle.show_inputs_text.specs.InputTexts.{ShowsDifferenceOf}

pub apart : (limit : ℕ) (a b : Fsmd) (bytes : List ℕ) (ins : Inputs) (l r : Ended) → SpellsInputFile (input_signatures a.variables) bytes ins
    → AreApart a b ins limit l r → ShowsDifferenceOf limit a b bytes
apart limit a b bytes ins l r s h = record {
  inputs = ins;
  spells = s;
  shows = record {
    left = told_by a l.outputs.items;
    right = told_by b r.outputs.items;
    left_steps = l.steps;
    right_steps = r.steps;
    left_ends = h.left_end.ends;
    right_ends = h.right_end.ends;
    differ = h.differ;
  };
}
