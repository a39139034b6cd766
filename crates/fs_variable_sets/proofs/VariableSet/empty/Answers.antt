use Rattle.fs_variable_sets.proofs.Bits.{has_none}
use Rattle.fs_variable_sets.proofs.VariableSet.empty.Goals as goal

pub returns : goal.returns
returns c = has_none
