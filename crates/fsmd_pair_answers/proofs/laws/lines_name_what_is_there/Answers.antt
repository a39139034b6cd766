use Rattle.fsmd_pair_answers.proofs.Named.{named_are_there}
use Rattle.fsmd_pair_answers.proofs.laws.lines_name_what_is_there.Goals as goal

pub returns : goal.returns
returns c = named_are_there
