use Rattle.fs_variable_sets.proofs.Bits.{has_either}
use Rattle.fs_variable_sets.proofs.VariableSet.union.Goals as goal

pub returns : goal.returns
returns c = has_either c.args.self c.args.other
