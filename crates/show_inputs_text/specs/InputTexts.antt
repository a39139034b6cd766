-- Files of inputs that show a difference.
use Rattle.std.specs.Prelude.{ℕ, List}
use Rattle.fs_model.specs.Machines.{Fsmd}
use Rattle.fs_model.specs.Runs.{Inputs}
use Rattle.fs_stores.specs.InputValues.{input_signatures}
use Rattle.fs_inputs.specs.Refusals.{SpellsInputFile}
use Rattle.fs_trials.specs.Differences.{ShowsDifference}

-- bytes that are read as inputs of the left machine, from which the runs of both machines end within so many steps, and an output
-- differs
pub record ShowsDifferenceOf (limit : ℕ) (a b : Fsmd) (bytes : List ℕ) : Type 0 where
  pub inputs : Inputs
  pub spells : SpellsInputFile (input_signatures a.variables) bytes inputs
  pub shows : ShowsDifference a b inputs limit
