use Rattle.fs_inputs.proofs.Spellings.{one_spelling}
use Rattle.fs_inputs.proofs.laws.a_number_has_one_spelling.Goals as goal

pub returns : goal.returns
returns c = one_spelling
