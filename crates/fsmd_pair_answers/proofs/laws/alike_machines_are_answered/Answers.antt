use Rattle.fsmd_pair_answers.proofs.Alike.{alike_are_answered}
use Rattle.fsmd_pair_answers.proofs.laws.alike_machines_are_answered.Goals as goal

pub returns : goal.returns
returns c = alike_are_answered
